use Rattle.std.proofs.Common.{◌↔◌, drop}
use Rattle.move_model.specs.Network.{IsAtOrBefore}
use Rattle.move_model.proofs.check.precedes.Given as goal

abbrev pub invariant-loop-i : goal.invariant-loop-i
invariant-loop-i l = IsAtOrBefore (drop l.i l.calls) (drop l.i l.next) ↔ IsAtOrBefore l.calls l.next
