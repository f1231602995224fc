use Rattle.std.proofs.Common.{◌≡◌, ◌∙◌, subst, sym}
use Rattle.std.specs.List.Sorted.{IsNonDecreasing}
use Rattle.bucket_walks.specs.Starts.{nodes_of}
use Rattle.bucket_walks.proofs.index.starts_of.Goals as goal

pub starts-requires-clause-rise : goal.starts-requires-clause-rise
starts-requires-clause-rise c =
    let is : c.deref.result.now ≡ nodes_of c.args.list.now = c.deref.ensures.value ∙ c.in_ok-vertices.ensures in
    subst IsNonDecreasing (sym is) c.requires.rise
