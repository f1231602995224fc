use Rattle.std.proofs.Common.{ℕ, ◌<◌}
use Rattle.walk_laws.specs.Sums.{HasArc}
use Rattle.walk_core.specs.Row.{is_last}
use Rattle.walk_core.specs.State.{CleansLeft}
use Rattle.walk_core.proofs.state.clean_all.Given as goal

abbrev pub invariant-loop-at : goal.invariant-loop-at
invariant-loop-at l = record {
  cleans : CleansLeft l.rank l.initial.rows l.rows;
  clean : (v q k : ℕ) → v < l.at → is_last l.rank v → HasArc l.rows v q k → is_last l.rank q;
}
