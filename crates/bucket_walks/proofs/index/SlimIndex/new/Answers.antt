use Rattle.std.proofs.Common.{◌≡◌, ◌∙◌, ◌<◌, ◌^◌, ℕ, List, map, sym, ap, subst}
use Rattle.std.specs.List.Sorted.{IsNonDecreasing}
use Rattle.bucket_walks.specs.declared.bucket.Bucket.{Bucket}
use Rattle.bucket_walks.specs.Starts.{AreStarts, nodes_of}
use Rattle.bucket_walks.specs.Slim.{AreSmall, slim_of}
use Rattle.bucket_walks.specs.Twins.{kept_of}
use Rattle.bucket_walks.proofs.TwinLemmas.{kept_part, kept_rise}
use Rattle.bucket_walks.proofs.index.SlimIndex.new.Goals as goal

pub starts_of-requires-clause-rise : goal.starts_of-requires-clause-rise
starts_of-requires-clause-rise c =
    let list = c.args.list.now in
    let twins = c.in_ok-twins.twins.items in
    let is : c.deref-2.result.now ≡ kept_of twins list = c.deref-2.ensures.value ∙ c.in_ok-kept.ensures ∙ ap (λ (all : List ℕ). kept_of all list) c.deref.ensures.value in
    subst (λ (entries : List Bucket). IsNonDecreasing (nodes_of entries)) (sym is) (kept_rise twins list c.requires.rules.in_order)

pub slims-requires : goal.slims-requires
slims-requires c =
    let list = c.args.list.now in
    let twins = c.in_ok-twins.twins.items in
    let is : c.deref-3.result.now ≡ kept_of twins list = c.deref-3.ensures.value ∙ c.in_ok-kept.ensures ∙ ap (λ (all : List ℕ). kept_of all list) c.deref.ensures.value in
    record { small = subst AreSmall (sym is) (kept_part twins list (λ (entry : Bucket). entry.seconds < 2 ^ 32) c.requires.small) }

pub returns-clause-slim : goal.returns-clause-slim
returns-clause-slim c =
    let list = c.args.list.now in
    let twins = c.in_ok-twins.twins.items in
    let kept : c.in_ok-kept.kept.items ≡ kept_of twins list = c.in_ok-kept.ensures ∙ ap (λ (all : List ℕ). kept_of all list) c.deref.ensures.value in
    record {
      twins = c.in_ok-twins.ensures;
      entries = c.in_ok-entries.ensures ∙ ap (map slim_of) (c.deref-3.ensures.value ∙ kept);
      first = subst (λ (entries : List Bucket). AreStarts c.in_ok-starts.starts.items (nodes_of entries)) (c.deref-2.ensures.value ∙ kept) c.in_ok-starts.ensures.first;
    }
