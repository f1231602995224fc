use Rattle.bucket_walks.proofs.CopyLemmas.{CopiedBelow}
use Rattle.bucket_walks.proofs.scan.copy_twins.Given as goal

abbrev pub invariant-loop-stop : goal.invariant-loop-stop
invariant-loop-stop l = CopiedBelow l.twins l.initial.walks l.walks l.stop
