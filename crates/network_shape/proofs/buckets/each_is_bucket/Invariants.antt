use Rattle.std.proofs.Common.{take}
use Rattle.std.specs.Prelude.{All}
use Rattle.bucket_walks.specs.Buckets.{IsBucket}
use Rattle.network_shape.proofs.buckets.each_is_bucket.Given as goal

abbrev pub invariant-loop-i : goal.invariant-loop-i
invariant-loop-i l = All (IsBucket l.nodes l.stops) (take l.i l.entries)
