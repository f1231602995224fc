use Rattle.std.proofs.Common.{take}
use Rattle.bucket_walks.specs.Gathered.{HasNoShort}
use Rattle.bucket_walks.proofs.gather.has_no_short.Given as goal

abbrev pub invariant-loop-arc : goal.invariant-loop-arc
invariant-loop-arc l = HasNoShort (take l.arc-index l.arcs) l.marks l.seconds
