use Rattle.std.proofs.Common.{take}
use Rattle.bucket_walks.specs.Gathered.{AreMarked}
use Rattle.bucket_walks.proofs.gather.mark.Given as goal

abbrev pub invariant-loop-there : goal.invariant-loop-there
invariant-loop-there l = AreMarked (take l.there-index l.settled) l.marks
