use Rattle.std.proofs.Common.{◌≡◌, ◌∙◌, ◌+◌, ℕ, List, sym, ap, subst}
use Rattle.walk_hierarchy.specs.Hierarchy.{Parts, IsUpSum, AreSettled}
use Rattle.bucket_walks.specs.declared.bucket.Bucket.{Bucket}
use Rattle.bucket_walks.specs.declared.bypasses.Side.TheVariants.{From}
use Rattle.bucket_walks.specs.Buckets.{Parts as BucketParts}
use Rattle.bucket_walks.specs.Scan.{Lowers, IsOver}
use Rattle.bucket_walks.proofs.KeptLemmas.{settled_next, settled_few}
use Rattle.bucket_walks.proofs.ScanLemmas.{first_holds}
use Rattle.bucket_walks.proofs.DistanceLaws.{first_distances}
use Rattle.bucket_walks.proofs.buckets.Buckets.first_walks.Goals as goal

abbrev sums : Parts → ℕ → ℕ → ℕ → Type 0
sums h p = IsUpSum h p

pub scan-requires-clause-exist : goal.scan-requires-clause-exist
scan-requires-clause-exist g c =
    let h = c.args.hierarchy.now in
    let are : AreSettled (sums h c.args.from.0) c.settled.result.now = subst (AreSettled (sums h c.args.from.0)) (sym c.settled.ensures) c.search_up.ensures.settled in
    settled_next From h c.nodes.ensures.rules c.args.from.0 c.requires.exists c.settled.result.now are _
    (c.self.invariant.to_each ∙ ap (λ (b : BucketParts). b.nodes + 2) c.self.view_is ∙ ap (λ (n : ℕ). n + 2) c.requires.same_nodes)

pub scan-requires-clause-few : goal.scan-requires-clause-few
scan-requires-clause-few g c =
    let h = c.args.hierarchy.now in
    let are : AreSettled (sums h c.args.from.0) c.settled.result.now = subst (AreSettled (sums h c.args.from.0)) (sym c.settled.ensures) c.search_up.ensures.settled in
    settled_few From h c.nodes.ensures.rules c.args.from.0 c.requires.exists c.settled.result.now are

pub returns-clause-sums : goal.returns-clause-sums
returns-clause-sums g c =
    let h = c.args.hierarchy.now in
    let are : AreSettled (sums h c.args.from.0) c.settled.result.now = subst (AreSettled (sums h c.args.from.0)) (sym c.settled.ensures) c.search_up.ensures.settled in
    let list : c.as_slice.result.now ≡ c.args.self.now.to = c.as_slice.ensures ∙ ap (λ (b : BucketParts). b.to) c.self.view_is in
    first_holds h c.args.self.now c.args.from c.settled.result.now c.clear.new.walks c.scan.new.walks are (c.clear.ensures.many ∙ c.requires.one_each) c.clear.ensures.none
    (subst (λ (entries : List Bucket). Lowers c.clear.new.walks c.scan.new.walks (IsOver c.settled.result.now entries)) list c.scan.ensures)

pub returns-clause-distances : goal.returns-clause-distances
returns-clause-distances g c graph stops are_of gives short =
    let h = c.args.hierarchy.now in
    let are : AreSettled (sums h c.args.from.0) c.settled.result.now = subst (AreSettled (sums h c.args.from.0)) (sym c.settled.ensures) c.search_up.ensures.settled in
    let list : c.as_slice.result.now ≡ c.args.self.now.to = c.as_slice.ensures ∙ ap (λ (b : BucketParts). b.to) c.self.view_is in
    first_distances h stops c.args.self.now graph c.args.from c.scan.new.walks are_of gives short c.requires.exists
    (first_holds h c.args.self.now c.args.from c.settled.result.now c.clear.new.walks c.scan.new.walks are (c.clear.ensures.many ∙ c.requires.one_each) c.clear.ensures.none
    (subst (λ (entries : List Bucket). Lowers c.clear.new.walks c.scan.new.walks (IsOver c.settled.result.now entries)) list c.scan.ensures))
