-- Each place stands in one slot at most: so there is a slot for a place that has none.
use Rattle.std.proofs.Common.{◌≡◌, ◌≢◌, ℕ, zero, suc, ◌<◌, ◌≤◌, false, List, ◌∷◌, length, get_or, map, eqb, sym, ap, ◌∙◌, subst, inl, inr, arith, eqb-true}
use Rattle.std.proofs.lemmas.Bool.Decides.{eqb_tells}
use Rattle.std.proofs.lemmas.List.{get_or-map, get_or_default, length-map}
use Rattle.std.proofs.lemmas.Option.{slice_get_cases}
use Rattle.std.proofs.lemmas.List.Folds.{Any-from_list_any}
use Rattle.std.proofs.lemmas.Map.Keys.{IsDistinct-from_apart}
use Rattle.std.proofs.lemmas.Map.Steps.{length-le_from_distinct_below}
use Rattle.walk_queue.specs.declared.heap.Entry.{Entry}
use Rattle.walk_queue.specs.Heap.{IsLinked}

not_equal : (a b : ℕ) → a ≢ b → eqb a b ≡ false
not_equal a b apart = elim (eqb_tells a b) [ inl same ↦ absurd (apart same.1) | inr other ↦ other.0 ]

-- numbers below n, each standing once in the list, are at most n
few_from_apart : (xs : List ℕ) (n : ℕ) → ((i j : ℕ) → i < j → j < length xs → get_or xs i 0 ≢ get_or xs j 0) → ((k : ℕ) → k < length xs → get_or xs k 0 < n) → length xs ≤ n
few_from_apart xs n apart below =
    length-le_from_distinct_below xs n
    (IsDistinct-from_apart eqb xs (λ i j d low here.
    not_equal (get_or xs i d) (get_or xs j d) (λ e. apart i j low here (get_or_default xs i 0 d (omega arith) ∙ e ∙ sym (get_or_default xs j 0 d here)))))
    (λ q found.
    let some = Any-from_list_any (eqb q) xs found in
    let low = below some.0 some.2 in
    let first : get_or xs some.0 0 ≡ get_or xs some.0 some.1 = get_or_default xs some.0 0 some.1 some.2 in
    let is : q ≡ some.1 = eqb-true q some.1 some.4 in
    omega (arith, low, first, some.3, is))

module _ {K : Type 0} (xs : List (Entry K)) (index : List ℕ) (p : ℕ) (few : length xs ≤ 4294967295) (here : p < length index) (absent : get_or index p 0 ≡ 4294967295) (was : IsLinked xs index) where
  place_at : (k : ℕ) (low : k < length xs) → (get_or (map (λ (e : Entry K). e.place) xs) k 0 < length index) × (get_or index (get_or (map (λ (e : Entry K). e.place) xs) k 0) 0 ≡ k)
  place_at k low =
      elim (slice_get_cases xs k).1 [
        | inl found ↦
            subst (λ n. (n < length index) × (get_or index n 0 ≡ k)) (sym (get_or-map (λ (e : Entry K). e.place) xs k found.0 0 low)) (was.stands k found.0 low)
        | inr past ↦ absurd (omega (arith, past.0))
      ]

  apart : (i j : ℕ) → i < j → j < suc (length (map (λ (e : Entry K). e.place) xs)) → get_or (p ∷ map (λ (e : Entry K). e.place) xs) i 0 ≢ get_or (p ∷ map (λ (e : Entry K). e.place) xs) j 0
  apart zero zero low in_j e = omega arith
  apart (suc i) zero low in_j e = omega arith
  apart zero (suc j) low in_j e =
      let long = length-map xs (λ (e : Entry K). e.place) in
      let at_j = place_at j (omega (arith, long)) in
      let one : get_or index p 0 ≡ get_or index (get_or (map (λ (e : Entry K). e.place) xs) j 0) 0 = ap (λ q. get_or index q 0) e in
      omega (arith, at_j.1, long)
  apart (suc i) (suc j) low in_j e =
      let long = length-map xs (λ (e : Entry K). e.place) in
      let at_i = place_at i (omega (arith, long)) in
      let at_j = place_at j (omega (arith, long)) in
      let one : get_or index (get_or (map (λ (e : Entry K). e.place) xs) i 0) 0 ≡ get_or index (get_or (map (λ (e : Entry K). e.place) xs) j 0) 0 = ap (λ q. get_or index q 0) e in
      omega (arith, at_i.1, at_j.1)

  below : (k : ℕ) → k < suc (length (map (λ (e : Entry K). e.place) xs)) → get_or (p ∷ map (λ (e : Entry K). e.place) xs) k 0 < length index
  below zero low = here
  below (suc k) low = (place_at k (omega (arith, length-map xs (λ (e : Entry K). e.place)))).0

  pub has_room : length xs < length index
  has_room =
      let all : suc (length (map (λ (e : Entry K). e.place) xs)) ≤ length index = few_from_apart (p ∷ map (λ (e : Entry K). e.place) xs) (length index) apart below in
      omega (arith, length-map xs (λ (e : Entry K). e.place))
