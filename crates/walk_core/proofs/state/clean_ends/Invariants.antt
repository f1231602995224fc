use Rattle.walk_core.specs.State.{CleansLeft}
use Rattle.walk_core.proofs.state.clean_ends.Given as goal

abbrev pub invariant-loop-arc : goal.invariant-loop-arc
invariant-loop-arc l = CleansLeft l.rank l.initial.rows l.rows
