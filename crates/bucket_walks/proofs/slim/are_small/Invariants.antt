use Rattle.bucket_walks.specs.Slim.{AreSmall}
use Rattle.std.proofs.Common.{take}
use Rattle.bucket_walks.proofs.slim.are_small.Given as goal

abbrev pub invariant-loop-entry : goal.invariant-loop-entry
invariant-loop-entry l = AreSmall (take l.entry-index l.list)
