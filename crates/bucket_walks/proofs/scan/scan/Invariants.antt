use Rattle.std.proofs.Common.{take}
use Rattle.bucket_walks.specs.Scan.{Lowers, IsOver}
use Rattle.bucket_walks.proofs.scan.scan.Given as goal

abbrev pub invariant-loop-there : goal.invariant-loop-there
invariant-loop-there l = Lowers l.initial.walks l.walks (IsOver (take l.there-index l.settled) l.list)
