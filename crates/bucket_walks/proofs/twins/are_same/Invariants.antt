use Rattle.std.proofs.Common.{ℕ, ◌<◌, get_or}
use Rattle.bucket_walks.specs.declared.bucket.Bucket.{Bucket}
use Rattle.bucket_walks.specs.Twins.{IsSame}
use Rattle.bucket_walks.proofs.twins.are_same.Given as goal

abbrev pub invariant-loop-place : goal.invariant-loop-place
invariant-loop-place l = (i : ℕ) (d : Bucket) → i < l.place → IsSame (get_or l.entries i d) (get_or l.others i d)
