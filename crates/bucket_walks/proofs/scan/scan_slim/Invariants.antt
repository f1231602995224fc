use Rattle.std.proofs.Common.{◌≡◌, List, length, map, take}
use Rattle.bucket_walks.specs.declared.bucket.Bucket.{Bucket}
use Rattle.bucket_walks.specs.Slim.{slim_of}
use Rattle.bucket_walks.specs.Starts.{AreStarts, nodes_of}
use Rattle.bucket_walks.specs.Scan.{Lowers, IsOver}
use Rattle.bucket_walks.proofs.scan.scan_slim.Given as goal

abbrev pub invariant-loop-there : goal.invariant-loop-there
invariant-loop-there l = record {
  many : length l.walks ≡ length l.initial.walks;
  lowers : (list : List Bucket) → l.slims ≡ map slim_of list → AreStarts l.starts (nodes_of list)
      → Lowers l.initial.walks l.walks (IsOver (take l.there-index l.settled) list);
}
