use Rattle.std.proofs.Common.{take}
use Rattle.std.specs.Prelude.{All}
use Rattle.std.specs.List.{AllAdjacentBelow}
use Rattle.move_model.specs.Check.{Stays, GoesOn}
use Rattle.move_model.proofs.check.first_untimed_call.Given as goal

abbrev pub invariant-loop-i : goal.invariant-loop-i
invariant-loop-i l = record {
  stay : All Stays (take l.i l.calls);
  go_on : AllAdjacentBelow GoesOn l.calls l.i;
}
