use Rattle.std.proofs.Common.{◌≡◌, ◌∙◌, ℕ, List, sym, ap, subst}
use Rattle.std.specs.List.Sorted.{IsNonDecreasing}
use Rattle.std.proofs.lemmas.List.Sorted.{IsPermutation-sym, Contains-permutation}
use Rattle.bucket_walks.specs.declared.bucket.Bucket.{Bucket}
use Rattle.bucket_walks.specs.Starts.{AreStarts}
use Rattle.bucket_walks.specs.Twins.{stops_of}
use Rattle.bucket_walks.proofs.MapLemmas.{map_rises}
use Rattle.bucket_walks.proofs.twins.ByStop.new.Goals as goal

pub starts-requires-clause-rise : goal.starts-requires-clause-rise
starts-requires-clause-rise c =
    let entries = c.in_ok-entries.entries.items in
    let is : c.deref-2.result.now ≡ stops_of entries = c.deref-2.ensures.value ∙ c.in_ok-keys.ensures ∙ ap stops_of c.deref.ensures.value in
    subst IsNonDecreasing (sym is) (map_rises (λ (entry : Bucket). entry.stop.0) entries c.in_ok-entries.ensures.rise)

pub returns : goal.returns
returns c =
    let list = c.args.list.now in
    let entries = c.in_ok-entries.entries.items in
    let same = c.in_ok-entries.ensures.same in
    let is : c.deref-2.result.now ≡ stops_of entries = c.deref-2.ensures.value ∙ c.in_ok-keys.ensures ∙ ap stops_of c.deref.ensures.value in
    record {
      entries = λ entry. (λ has. Contains-permutation entries list entry (IsPermutation-sym list entries same) has, λ has. Contains-permutation list entries entry same has);
      many = c.in_ok-starts.ensures.many;
      first = subst (λ (keys : List ℕ). AreStarts c.in_ok-starts.starts.items keys) is c.in_ok-starts.ensures.first;
    }
