use Rattle.std.specs.List.{AllAdjacentBelow}
use Rattle.network_shape.specs.Pairs.{IsPairBefore}
use Rattle.network_shape.proofs.transfers.are_in_order.Given as goal

abbrev pub invariant-loop-i : goal.invariant-loop-i
invariant-loop-i l = AllAdjacentBelow IsPairBefore l.list l.i
