use Rattle.std.specs.List.{AllAdjacentBelow}
use Rattle.bucket_walks.specs.Buckets.{IsBefore}
use Rattle.network_shape.proofs.buckets.are_in_order.Given as goal

abbrev pub invariant-loop-i : goal.invariant-loop-i
invariant-loop-i l = AllAdjacentBelow IsBefore l.entries l.i
