use Rattle.std.proofs.Common.{ℕ, ◌<◌}
use Rattle.std.specs.Prelude.{slice_index_or}
use Rattle.move_model.specs.declared.network.Stop.{Stop}
use Rattle.walk_core.specs.Core.{Holds}
use Rattle.shortcut_checks.proofs.sample.holds_stops.Given as goal

abbrev pub invariant-loop-i : goal.invariant-loop-i
invariant-loop-i l = (k : ℕ) (d : Stop) → k < l.i → Holds l.core (slice_index_or l.stops k d).node
