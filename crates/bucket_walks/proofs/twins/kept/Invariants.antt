use Rattle.std.proofs.Common.{◌≡◌, take}
use Rattle.bucket_walks.specs.Twins.{kept_of}
use Rattle.bucket_walks.proofs.twins.kept.Given as goal

abbrev pub invariant-loop-entry : goal.invariant-loop-entry
invariant-loop-entry l = l.kept.items ≡ kept_of l.twins (take l.entry-index l.list)
