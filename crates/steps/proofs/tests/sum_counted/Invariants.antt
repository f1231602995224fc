use Rattle.std.proofs.Common.{◌≤◌, ◌+◌}
use Rattle.steps.proofs.tests.sum_counted.Given as goal

abbrev pub invariant-loop-item : goal.invariant-loop-item
invariant-loop-item g l = l.steps ≤ l.fn.steps + l.item-index
