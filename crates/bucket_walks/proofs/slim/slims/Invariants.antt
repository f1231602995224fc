use Rattle.std.proofs.Common.{◌≡◌, map, take}
use Rattle.bucket_walks.specs.Slim.{slim_of}
use Rattle.bucket_walks.proofs.slim.slims.Given as goal

abbrev pub invariant-loop-entry : goal.invariant-loop-entry
invariant-loop-entry l = l.slims.items ≡ map slim_of (take l.entry-index l.list)
