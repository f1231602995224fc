use Rattle.std.specs.List.{AllAdjacentBelow}
use Rattle.move_model.specs.Check.{Precedes}
use Rattle.move_model.proofs.check.first_unordered.Given as goal

abbrev pub invariant-loop-i : goal.invariant-loop-i
invariant-loop-i l = AllAdjacentBelow Precedes l.trips l.i
