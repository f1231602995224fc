use Rattle.std.proofs.Common.{◌≡◌, ℕ, ◌+◌, ◌<◌}
use Rattle.std.specs.Prelude.{slice_get, Contains, Some}
use Rattle.move_model.specs.declared.journey.Shortcut.{Shortcut}
use Rattle.raptor_rounds.specs.Ways.{Query}
use Rattle.range_lanes.specs.Levels.{Reached, ReadyFalls, WalksBy, IsSound}
use Rattle.range_lanes.proofs.walk.walk_by.Given as goal

abbrev pub invariant-loop-e : goal.invariant-loop-e
invariant-loop-e l = record {
  known : (i : ℕ) (e : Shortcut) → i < l.e-index → slice_get l.entries i ≡ Some e → e.from ≡ l.from → Reached l.below l.level e.to.0 (l.second + e.seconds);
  falls : ReadyFalls l.fn.level l.level l.fn.better l.better;
  sound : (q : Query) → ((e : Shortcut) → Contains l.entries e → e.from ≡ l.from → WalksBy q l.fn.level l.from e.to (l.second + e.seconds))
      → IsSound q l.below l.fn.level → IsSound q l.below l.level;
}
