use Rattle.std.proofs.Common.{take}
use Rattle.bucket_walks.specs.Scan.{Lowers, IsBy}
use Rattle.bucket_walks.proofs.scan.lower_by.Given as goal

abbrev pub invariant-loop-entry : goal.invariant-loop-entry
invariant-loop-entry l = Lowers l.initial.walks l.walks (IsBy (take l.entry-index l.entries) l.seconds)
