-- One query more.
use Rattle.std.proofs.Common.{◌≡◌, ◌∙◌, ℕ, ◌+◌, ◌<◌, List, [], ◌∷◌, ◌++◌, length, take, get_or, refl, sym, ap, subst, arith}
use Rattle.std.specs.Prelude.{sum_by}
use Rattle.std.proofs.lemmas.List.{take_more}
use Rattle.std.proofs.lemmas.List.Sums.{sum_by-append}
use Rattle.move_model.specs.declared.network.Network.{Network}
use Rattle.move_model.specs.declared.query.Query.{Query}
use Rattle.city_summary.specs.declared.totals.Counts.{Counts}
use Rattle.city_summary.specs.Summary.{HasCounts, AreCounts, HasSums}
use Rattle.city_summary.specs.Summary.AreCounts.{none, next}

counts_more : {n : Network} {queries : List Query} {counts : List Counts} (query : Query) (one : Counts) → AreCounts n queries counts → HasCounts n query one
    → AreCounts n (queries ++ query ∷ []) (counts ++ one ∷ [])
counts_more query one none last = next last none
counts_more query one (next first rest) last = next first (counts_more query one rest last)

sum_more : (f : Counts → ℕ) (counts : List Counts) (one : Counts) → sum_by f (counts ++ one ∷ []) ≡ sum_by f counts + f one
sum_more f counts one = omega (arith, sum_by-append f counts (one ∷ []))

pub sums_none : (n : Network) → HasSums n [] (record { pairs = 0; spans = 0; arrivals = 0 })
sums_none n = record { counts = []; are_counts = none; pairs = refl; spans = refl; arrivals = refl }

sums_more : (n : Network) (queries : List Query) (sums : Counts) (query : Query) (one : Counts) → HasSums n queries sums → HasCounts n query one
    → HasSums n (queries ++ query ∷ []) (record { pairs = sums.pairs + one.pairs; spans = sums.spans + one.spans; arrivals = sums.arrivals + one.arrivals })
sums_more n queries sums query one before last = record {
  counts = before.counts ++ one ∷ [];
  are_counts = counts_more query one before.are_counts last;
  pairs = omega (arith, before.pairs, sum_more (λ (c : Counts). c.pairs) before.counts one);
  spans = omega (arith, before.spans, sum_more (λ (c : Counts). c.spans) before.counts one);
  arrivals = omega (arith, before.arrivals, sum_more (λ (c : Counts). c.arrivals) before.counts one);
}

pub sums_at : (n : Network) (queries : List Query) (i : ℕ) (sums : Counts) (query : Query) (one after : Counts) → i < length queries → query ≡ get_or queries i query
    → HasSums n (take i queries) sums → HasCounts n query one
    → after ≡ (record { pairs = sums.pairs + one.pairs; spans = sums.spans + one.spans; arrivals = sums.arrivals + one.arrivals })
    → HasSums n (take (i + 1) queries) after
sums_at n queries i sums query one after within is_query before last is =
    let taken : take (i + 1) queries ≡ take i queries ++ query ∷ [] =
    take_more queries i query within ∙ ap (λ (q : Query). take i queries ++ q ∷ []) (sym is_query) in
    subst (λ (k : Counts). HasSums n (take (i + 1) queries) k) (sym is)
    (subst (λ (qs : List Query). HasSums n qs (record { pairs = sums.pairs + one.pairs; spans = sums.spans + one.spans; arrivals = sums.arrivals + one.arrivals })) (sym taken)
    (sums_more n (take i queries) sums query one before last))

pub parts_at : (sums one after : Counts) → after ≡ (record { pairs = sums.pairs + one.pairs; spans = sums.spans + one.spans; arrivals = sums.arrivals + one.arrivals })
    → (after.pairs ≡ sums.pairs + one.pairs) × (after.spans ≡ sums.spans + one.spans) × (after.arrivals ≡ sums.arrivals + one.arrivals)
parts_at sums one after is = (ap (λ (k : Counts). k.pairs) is, ap (λ (k : Counts). k.spans) is, ap (λ (k : Counts). k.arrivals) is)
