-- Departures sorted by their seconds are trips in the order of their numbers.
use Rattle.std.proofs.Common.{◌≡◌, ℕ, ◌+◌, ◌<◌, ◌==◌, ◌&&◌, ◌⊎◌, inl, inr, not, Bool, true, false, cond, List, [], ◌∷◌, length, get_or, refl, sym, ap, ◌∙◌, arith}
use Rattle.std.specs.Prelude.{map, filter, All}
use Rattle.std.specs.List.{AllAdjacentBelow}
use Rattle.std.specs.List.Sorted.{IsPermutation, IsSortedBy, IsStableBy, ties}
use Rattle.std.specs.Cmp.{IsTotalOrder, IsStrictWeakOrder}
use Rattle.std.specs.Cmp.Lexicographic.{slice_cmp}
use Rattle.std.specs.Ordering.{nat_cmp, is_lt, is_eq, ordering_then, ordering_reverse, eq_by_cmp}
use Rattle.std.specs.declared.cmp.Ordering.{Ordering}
use Rattle.std.specs.declared.cmp.Ordering.TheVariants.{Less, Equal, Greater}
use Rattle.std.specs.Cmp.{nat_cmp_total, on_total, then_total, unsigned_tied, both_tied}
use Rattle.std.specs.Cmp.Lexicographic.{lists_total, lists_ties}
use Rattle.std.proofs.lemmas.Bool.Decides.{nat_tests}
use Rattle.std.proofs.lemmas.Bool.{cases_order}
use Rattle.std.proofs.lemmas.List.Sorted.{ranks_by, IsPermutation-map, All-permutation}
use Rattle.std.proofs.lemmas.List.{get_or-map, length-map}
use Rattle.std.proofs.lemmas.List.Elements.{filter_agree, All-cons, All-nil}
use Rattle.move_model.specs.declared.network.Call.{Call}
use Rattle.move_model.specs.declared.network.Trip.{Trip}
use Rattle.move_model.specs.Network.{IsAtOrBefore}
use Rattle.service_day.specs.Order.{call_cmp, trip_cmp, same_seconds, IsNumbered}
use Rattle.service_day.specs.declared.departure.Departure.{Departure}
use Rattle.service_day.specs.Departure.{trip_of}
use Rattle.service_day.proofs.OrderLemmas.{less, equal}
use Rattle.service_day.proofs.ListLemmas.{filter-map, filter_none}

call-total : IsTotalOrder call_cmp
call-total = then_total (on_total (λ (call : Call). call.arr) nat_cmp_total) (on_total (λ (call : Call). call.dep) nat_cmp_total)

calls-total : IsTotalOrder (slice_cmp call_cmp)
calls-total = lists_total call-total

-- whether a departure comes before another
abbrev pub is_before : Departure → Departure → Bool
is_before departure other = is_lt (trip_cmp (trip_of departure) (trip_of other))

pub before-order : IsStrictWeakOrder is_before
before-order = ranks_by calls-total (λ (departure : Departure). (trip_of departure).calls)

-- what is not less the other way round is at or before
at_or_before : (calls next : List Call) → is_lt (slice_cmp call_cmp next calls) ≡ false → IsAtOrBefore calls next
at_or_before [] next h = tt
at_or_before (call ∷ calls) [] h = absurd (let no : true ≡ false = h in cc)
at_or_before (call ∷ calls) (other ∷ next) h = by call.arr call.dep other.arr other.dep (at_or_before calls next) h
  where
    by : (a d b e : ℕ) → (is_lt (slice_cmp call_cmp next calls) ≡ false → IsAtOrBefore calls next)
        → is_lt (ordering_then (ordering_then (nat_cmp b a) (nat_cmp e d)) (slice_cmp call_cmp next calls)) ≡ false
        → (a < b) ⊎ ((a ≡ b) × ((d < e) ⊎ ((d ≡ e) × IsAtOrBefore calls next)))
    by a d b e rest h =
        elim (cases_order a b) [
          | inr (inl lt) ↦ inl lt
          | inl same ↦ inr (
            same,
            elim (cases_order d e) [
              | inr (inl lt) ↦ inl lt
              | inl level ↦ inr (level, rest (rw (equal b a (sym same), equal e d (sym level)) at h))
              | inr (inr gt) ↦ absurd (let no : true ≡ false = rw (equal b a (sym same), less e d gt) at h in cc)
            ],
          )
          | inr (inr gt) ↦ absurd (let no : true ≡ false = rw (less b a gt) at h in cc)
        ]

same-call : (call other : Call) → (call.arr == other.arr) && (call.dep == other.dep) ≡ eq_by_cmp call_cmp call other
same-call call other = both_tied _ _ (nat_cmp call.arr other.arr) (nat_cmp call.dep other.dep) (sym (unsigned_tied call.arr other.arr)) (sym (unsigned_tied call.dep other.dep))

same-trips : (trip other : Trip) → same_seconds trip other ≡ is_eq (slice_cmp call_cmp trip.calls other.calls)
same-trips trip other = lists_ties call_cmp same-call trip.calls other.calls

tie : (r : Ordering) → not (is_lt r) && not (is_lt (ordering_reverse r)) ≡ is_eq r
tie Less = refl
tie Equal = refl
tie Greater = refl

-- departures tie where their trips have the same seconds
ties-same : (x y : Departure) → ties is_before x y ≡ same_seconds (trip_of x) (trip_of y)
ties-same x y =
    ap (λ (r : Ordering). not (is_before x y) && not (is_lt r)) (calls-total.antisymm (trip_of y).calls (trip_of x).calls)
    ∙ tie (trip_cmp (trip_of x) (trip_of y)) ∙ sym (same-trips (trip_of x) (trip_of y))

-- trips with the same seconds have them in common with the same trips
same-as : (trip other third : Trip) → same_seconds trip other ≡ true → same_seconds trip third ≡ same_seconds other third
same-as trip other third h =
    same-trips trip third
    ∙ ap is_eq (calls-total.congr trip.calls other.calls third.calls (is_equal (slice_cmp call_cmp trip.calls other.calls) (sym (same-trips trip other) ∙ h)))
    ∙ sym (same-trips other third)
  where
    is_equal : (r : Ordering) → is_eq r ≡ true → r ≡ Equal
    is_equal Less h = cc
    is_equal Equal h = refl
    is_equal Greater h = cc

fails : {X : Type 0} (p : X → Bool) (xs : List X) → filter p xs ≡ [] → All (λ x. p x ≡ false) xs
fails p [] h = All-nil (λ x. p x ≡ false)
fails p (x ∷ xs) h = by (p x) refl h (fails p xs)
  where
    by : (b : Bool) → p x ≡ b → cond b (x ∷ filter p xs) (filter p xs) ≡ [] → (filter p xs ≡ [] → All (λ y. p y ≡ false) xs) → All (λ y. p y ≡ false) (x ∷ xs)
    by true e h rest = cc
    by false e h rest = All-cons (λ y. p y ≡ false) x xs e (rest h)

-- either nothing passes, or what passes has a first
first-passing : {X : Type 0} (p : X → Bool) (xs : List X) → (filter p xs ≡ []) ⊎ ((x : X) × (p x ≡ true))
first-passing p [] = inl refl
first-passing p (x ∷ xs) = by (p x) refl (first-passing p xs)
  where
    by : (b : Bool) → p x ≡ b → (filter p xs ≡ []) ⊎ ((y : _) × (p y ≡ true)) → (cond b (x ∷ filter p xs) (filter p xs) ≡ []) ⊎ ((y : _) × (p y ≡ true))
    by true e rest = inr (x, e)
    by false e rest = rest

-- a stable sort keeps the order of those with the same seconds
ties-stay : (departures sorted : List Departure) → IsPermutation departures sorted → IsStableBy is_before departures sorted
    → (trip : Trip) → filter (same_seconds trip) (map trip_of sorted) ≡ filter (same_seconds trip) (map trip_of departures)
ties-stay departures sorted moves stable trip =
    filter-map (same_seconds trip) trip_of sorted
    ∙ ap (map trip_of) (by (first-passing same departures))
    ∙ sym (filter-map (same_seconds trip) trip_of departures)
  where
    same : Departure → Bool
    same departure = same_seconds trip (trip_of departure)

    by : (filter same departures ≡ []) ⊎ ((x : Departure) × (same x ≡ true)) → filter same sorted ≡ filter same departures
    by (inl none) = filter_none same sorted (All-permutation (λ x. same x ≡ false) departures sorted moves (fails same departures none)) ∙ sym none
    by (inr (x, e)) =
        let agree : (y : Departure) → same y ≡ ties is_before x y = λ y. same-as trip (trip_of x) (trip_of y) e ∙ sym (ties-same x y) in
        filter_agree same (ties is_before x) agree sorted ∙ stable x ∙ sym (filter_agree same (ties is_before x) agree departures)

by-seconds : (sorted : List Departure) → IsSortedBy is_before sorted
    → AllAdjacentBelow (λ (trip next : Trip). IsAtOrBefore trip.calls next.calls) (map trip_of sorted) (length (map trip_of sorted))
by-seconds [] h k d low = absurd (omega arith)
by-seconds (x ∷ sorted) h k d low =
    let all = x ∷ sorted in
    let there : k + 1 < length all = omega (arith, low, length-map all trip_of) in
    rw (get_or-map trip_of all k x d (omega arith), get_or-map trip_of all (k + 1) x d there)
    (at_or_before (trip_of (get_or all k x)).calls (trip_of (get_or all (k + 1) x)).calls (h k x (omega arith) there))

pub is-numbered : (departures sorted : List Departure) → IsPermutation departures sorted → IsSortedBy is_before sorted → IsStableBy is_before departures sorted
    → IsNumbered (map trip_of departures) (map trip_of sorted)
is-numbered departures sorted moves order stable = record {
  same_trips = IsPermutation-map trip_of departures sorted moves;
  by_seconds = by-seconds sorted order;
  ties_stay = ties-stay departures sorted moves stable;
}
