use Rattle.std.proofs.Common.{◌≡◌, take, map}
use Rattle.bucket_walks.specs.Gathered.{bypass_of}
use Rattle.bucket_walks.proofs.bypasses.all_past.Given as goal

abbrev pub invariant-loop-arc : goal.invariant-loop-arc
invariant-loop-arc l = l.all.items ≡ map (bypass_of l.side) (take l.arc-index l.arcs)
