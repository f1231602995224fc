use Rattle.std.proofs.Common.{◌≡◌, List, length, map, take}
use Rattle.bucket_walks.specs.declared.bucket.Bucket.{Bucket}
use Rattle.bucket_walks.specs.Slim.{slim_of}
use Rattle.bucket_walks.specs.Scan.{Lowers, IsBy}
use Rattle.bucket_walks.proofs.scan.lower_by_slim.Given as goal

abbrev pub invariant-loop-slim : goal.invariant-loop-slim
invariant-loop-slim l = record {
  many : length l.walks ≡ length l.initial.walks;
  lowers : (entries : List Bucket) → l.slims ≡ map slim_of entries → Lowers l.initial.walks l.walks (IsBy (take l.slim-index entries) l.seconds);
}
