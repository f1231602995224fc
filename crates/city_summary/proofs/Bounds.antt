-- An answer has few pairs or spans, whose arrivals are not too late to be added up.
use Rattle.std.proofs.Common.{◌≡◌, ℕ, zero, suc, ◌+◌, ◌-◌, ◌*◌, ◌<◌, ◌≤◌, ◌^◌, List, [], ◌∷◌, map, length, get_or, refl, sym, ◌∙◌, subst, inl, inr, arith, Option}
use Rattle.std.specs.Prelude.{All, sum_by}
use Rattle.std.specs.List.{AllAdjacentBelow}
use Rattle.std.proofs.lemmas.List.{length-map}
use Rattle.std.proofs.lemmas.List.Elements.{Contains-get_or}
use Rattle.std.proofs.lemmas.List.Sums.{sum_by-le, sum_by-cons}
use Rattle.move_model.specs.declared.network.Network.{Network}
use Rattle.move_model.specs.declared.network.NodeNo.{NodeNo}
use Rattle.move_model.specs.declared.journey.Finding.{Finding}
use Rattle.move_model.specs.declared.journey.Pair.{Pair}
use Rattle.move_model.specs.declared.journey.Span.{Span}
use Rattle.move_model.specs.declared.journey.SpanFinding.{SpanFinding}
use Rattle.move_model.specs.declared.journey.Profile.{Profile}
use Rattle.move_model.specs.Journey.{IsBest, IsParetoList}
use Rattle.move_model.specs.Shortcut.{IsLess}
use Rattle.move_model.specs.Check.{KeepsRules}
use Rattle.move_model.specs.Range.{pair_of, IsRange}
use Rattle.move_model.specs.Found.{span_of}
use Rattle.city_summary.specs.Summary.{HasSpans}
use Rattle.city_summary.proofs.Arrivals.{best_arrives}

-- numbers that rise from item to item are at least the items' places
rising_at : {X : Type 0} (f : X → ℕ) (xs : List X) (d : X) → AllAdjacentBelow (λ a b. f a < f b) xs (length xs) → (k : ℕ) → k < length xs → k ≤ f (get_or xs k d)
rising_at f xs d rise zero h = omega arith
rising_at f xs d rise (suc k) h =
    let before = rising_at f xs d rise k (omega arith) in
    let step : f (get_or xs k d) < f (get_or xs (k + 1) d) = rise k d (omega arith) in
    let e : k + 1 ≡ suc k = omega arith in
    subst (λ i. suc k ≤ f (get_or xs i d)) e (omega (arith, before, step))

-- so there are no more items than there are such numbers
rising_few : {X : Type 0} (f : X → ℕ) (end : ℕ) (xs : List X) → AllAdjacentBelow (λ a b. f a < f b) xs (length xs) → All (λ x. f x < end) xs → length xs ≤ end
rising_few f end [] rise all = omega arith
rising_few f end (x ∷ xs) rise all =
    let here : length xs < length (x ∷ xs) = omega arith in
    let low = rising_at f (x ∷ xs) x rise (length xs) here in
    let high : f (get_or (x ∷ xs) (length xs) x) < end = all (length xs) x here in
    omega (arith, low, high)

-- few items with early arrivals
pub record IsSmall {X : Type 0} (arrive : X → ℕ) (xs : List X) : Type 0 where
  pub few : length xs ≤ 2 ^ 16
  pub total : sum_by arrive xs ≤ 2 ^ 58

small : {X : Type 0} (arrive : X → ℕ) (xs : List X) → length xs ≤ 30600 → All (λ x. arrive x ≤ 2000003599999) xs → IsSmall arrive xs
small arrive xs few early =
    let most : sum_by arrive xs ≤ length xs * 2000003599999 = sum_by-le arrive 2000003599999 xs early in
    record { few = omega arith; total = omega (arith, most, few) }

pairs_small : (n : Network) (s : NodeNo) (d : ℕ) (t : NodeNo) (limit : ℕ) (pairs : List Pair) → KeepsRules n → d ≤ 3599999 → limit ≤ 16
    → IsParetoList n s d t limit pairs → IsSmall (λ (pair : Pair). pair.arrive) pairs
pairs_small n s d t limit pairs rules day limited is =
    small (λ (pair : Pair). pair.arrive) pairs
    (let few = rising_few (λ (pair : Pair). pair.trips) 17 pairs is.rising (λ k x h. let b = best k x h in omega (arith, b.within, limited)) in omega (arith, few))
    (λ k x h. best_arrives n s d t limit (get_or pairs k x) rules day (best k x h))
  where
    best : (k : ℕ) (x : Pair) → k < length pairs → IsBest n s d t limit (get_or pairs k x)
    best k x h = (is.exact (get_or pairs k x)).0 (Contains-get_or pairs k x h)

pub sum_by-map : {X Y : Type 0} (f : Y → ℕ) (g : X → Y) (xs : List X) → sum_by f (map g xs) ≡ sum_by (λ x. f (g x)) xs
sum_by-map f g [] = refl
sum_by-map f g (x ∷ xs) = omega (arith, sum_by-cons f (g x) (map g xs), sum_by-cons (λ x. f (g x)) x xs, sum_by-map f g xs)

pub findings_small : (n : Network) (s : NodeNo) (d : ℕ) (t : NodeNo) (limit : ℕ) (found : List Finding) → KeepsRules n → d ≤ 3599999 → limit ≤ 16
    → IsParetoList n s d t limit (map (λ (finding : Finding). finding.pair) found) → IsSmall (λ (finding : Finding). finding.pair.arrive) found
findings_small n s d t limit found rules day limited is =
    let small = pairs_small n s d t limit (map (λ (finding : Finding). finding.pair) found) rules day limited is in
    record {
      few = omega (arith, small.few, length-map found (λ (finding : Finding). finding.pair));
      total = omega (arith, small.total, sum_by-map (λ (pair : Pair). pair.arrive) (λ (finding : Finding). finding.pair) found);
    }

-- spans are told apart by their first second and their number of trips
abbrev place_of : ℕ → Span → ℕ
place_of first span = (span.first - first) * 17 + span.trips

pub spans_small : (n : Network) (s t : NodeNo) (limit first last : ℕ) (profile : Profile) → KeepsRules n → last ≤ 3599999 → last - first + 1 ≤ 1800 → limit ≤ 16
    → IsRange n s t limit first last profile → IsSmall (λ (span : Span). span.arrive) profile.spans
spans_small n s t limit first last profile rules day short limited is =
    small (λ (span : Span). span.arrive) profile.spans
    (rising_few (place_of first) 30600 profile.spans rising (λ k x h. below k x h))
    (λ k x h. let w = is.spans.within k x h in best_arrives n s (get_or profile.spans k x).first t limit (pair_of (get_or profile.spans k x)) rules (omega (arith, w.ends, w.some_second)) (best k x h))
  where
    best : (k : ℕ) (x : Span) → k < length profile.spans → IsBest n s (get_or profile.spans k x).first t limit (pair_of (get_or profile.spans k x))
    best k x h =
        let span = get_or profile.spans k x in
        let w = is.spans.within k x h in
        (is.spans.exact span.first w.begins (omega (arith, w.some_second, w.ends)) (pair_of span)).0
        (inr (record { span = span; is_span = Contains-get_or profile.spans k x h; covers = (omega arith, w.some_second); pair_is = refl }))

    below : (k : ℕ) (x : Span) → k < length profile.spans → place_of first (get_or profile.spans k x) < 30600
    below k x h =
        let w = is.spans.within k x h in
        let b = best k x h in
        omega (arith, w.begins, w.some_second, w.ends, b.within, limited, short)

    rising : AllAdjacentBelow (λ a b. place_of first a < place_of first b) profile.spans (length profile.spans)
    rising k x h =
        let here : k < length profile.spans = omega arith in
        let a = get_or profile.spans k x in
        let b = get_or profile.spans (k + 1) x in
        let w = is.spans.within k x here in
        let one = best k x here in
        by a.first b.first a.trips b.trips w.begins (omega (arith, one.within, limited)) (is.spans.in_order k x h)
      where
        by : (f g u v : ℕ) → first ≤ f → u ≤ 16 → IsLess (f ∷ u ∷ []) (g ∷ v ∷ []) → (f - first) * 17 + u < (g - first) * 17 + v
        by f g u v low few (inl lt) = omega (arith, lt)
        by f g u v low few (inr (same, inl lt)) = omega (arith, same, lt)
        by f g u v low few (inr (same, inr (level, none))) = absurd none

pub found_spans_small : (n : Network) (s t : NodeNo) (limit first last : ℕ) (foot : Option ℕ) (spans : List SpanFinding) → KeepsRules n → last ≤ 3599999
    → last - first + 1 ≤ 1800 → limit ≤ 16 → IsRange n s t limit first last (record { foot = foot; spans = map span_of spans })
    → IsSmall (λ (found : SpanFinding). found.finding.pair.arrive) spans
found_spans_small n s t limit first last foot spans rules day short limited is =
    let small = spans_small n s t limit first last (record { foot = foot; spans = map span_of spans }) rules day short limited is in
    record {
      few = omega (arith, small.few, length-map spans span_of);
      total = omega (arith, small.total, sum_by-map (λ (span : Span). span.arrive) span_of spans);
    }

pub spans_counted : (spans : List SpanFinding) (many arrivals : ℕ) → many ≡ length spans
    → arrivals ≡ sum_by (λ (found : SpanFinding). found.finding.pair.arrive) spans
    → HasSpans (map span_of spans) (record { pairs = 0; spans = many; arrivals = arrivals })
spans_counted spans many arrivals as_many as_late =
    record {
      no_pairs = refl;
      spans_are = as_many ∙ sym (length-map spans span_of);
      arrivals = as_late ∙ sym (sum_by-map (λ (span : Span). span.arrive) span_of spans);
    }
