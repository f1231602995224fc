-- Trips sorted by their seconds are in the order of their numbers.
use Rattle.std.proofs.Common.{◌≡◌, ℕ, suc, ◌+◌, ◌-◌, ◌<◌, ◌≤◌, ◌==◌, ◌&&◌, ◌⊎◌, inl, inr, not, Bool, true, false, cond, List, [], ◌∷◌, length, drop, get_or, min, refl, sym, ap, ◌∙◌, arith, length-drop}
use Rattle.std.specs.Prelude.{filter, All}
use Rattle.std.specs.List.{AllAdjacentBelow}
use Rattle.std.specs.List.Sorted.{IsPermutation, IsSortedBy, IsStableBy, ties}
use Rattle.std.specs.Cmp.{IsTotalOrder, IsStrictWeakOrder}
use Rattle.std.specs.Cmp.Lexicographic.{slice_cmp}
use Rattle.std.specs.Ordering.{nat_cmp, is_lt, is_eq, ordering_then, ordering_reverse, eq_by_cmp}
use Rattle.std.specs.declared.cmp.Ordering.{Ordering}
use Rattle.std.specs.declared.cmp.Ordering.TheVariants.{Less, Equal, Greater}
use Rattle.std.specs.Cmp.{nat_cmp_total, on_total, then_total, unsigned_tied, both_tied}
use Rattle.std.specs.Cmp.Lexicographic.{lists_total, lists_ties}
use Rattle.std.proofs.lemmas.Bool.Decides.{nat_tests}
use Rattle.std.proofs.lemmas.Bool.{cases_order}
use Rattle.std.proofs.lemmas.List.Sorted.{ranks_by, All-permutation}
use Rattle.std.proofs.lemmas.List.Elements.{filter_agree, All-cons, All-nil, All-head, All-tail}
use Rattle.move_model.specs.declared.network.Call.{Call}
use Rattle.move_model.specs.declared.network.Trip.{Trip}
use Rattle.move_model.specs.Network.{IsAtOrBefore}
use Rattle.city_maker.specs.Order.{call_cmp, trip_cmp, same_seconds, IsNumbered}

none_less : (n : ℕ) → Less ≡ nat_cmp 0 (suc n)
none_less n = grind (arith, nat_tests)

some_greater : (n : ℕ) → Greater ≡ nat_cmp (suc n) 0
some_greater n = grind (arith, nat_tests)

less : (a b : ℕ) → a < b → nat_cmp a b ≡ Less
less a b h = grind (arith, nat_tests)

equal : (a b : ℕ) → a ≡ b → nat_cmp a b ≡ Equal
equal a b h = grind (arith, nat_tests)

nat_cmp-sub : (a b i : ℕ) → i ≤ a → i ≤ b → nat_cmp (a - i) (b - i) ≡ nat_cmp a b
nat_cmp-sub a b i h k = grind (arith, nat_tests)

-- two lists of which one is over compare as their lengths
over : {A B : Type 0} (R : A → B → Ordering) (xs : List A) (ys : List B) → (length xs ≡ 0) ⊎ (length ys ≡ 0) → slice_cmp R xs ys ≡ nat_cmp (length xs) (length ys)
over R [] [] h = refl
over R [] (y ∷ ys) h = none_less (length ys)
over R (x ∷ xs) [] h = some_greater (length xs)
over R (x ∷ xs) (y ∷ ys) (inl h) = absurd (omega (arith, h))
over R (x ∷ xs) (y ∷ ys) (inr h) = absurd (omega (arith, h))

-- after as many calls as both have, the longer list comes later
pub slice_cmp-end : {A B : Type 0} (R : A → B → Ordering) (xs : List A) (ys : List B) (i : ℕ) → i ≡ min (length xs) (length ys)
    → slice_cmp R (drop i xs) (drop i ys) ≡ nat_cmp (length xs) (length ys)
slice_cmp-end R xs ys i e =
    let one : (length xs - i ≡ 0) ⊎ (length ys - i ≡ 0) = grind arith in
    let short : (length (drop i xs) ≡ 0) ⊎ (length (drop i ys) ≡ 0) = simp length-drop one in
    over R (drop i xs) (drop i ys) short ∙ simp length-drop (nat_cmp-sub (length xs) (length ys) i (omega arith) (omega arith))

call-total : IsTotalOrder call_cmp
call-total = then_total (on_total (λ (call : Call). call.arr) nat_cmp_total) (on_total (λ (call : Call). call.dep) nat_cmp_total)

calls-total : IsTotalOrder (slice_cmp call_cmp)
calls-total = lists_total call-total

-- whether a trip comes before another
abbrev pub is_before : Trip → Trip → Bool
is_before trip other = is_lt (trip_cmp trip other)

pub before-order : IsStrictWeakOrder is_before
before-order = ranks_by calls-total (λ (trip : Trip). trip.calls)

-- what is not less the other way round is at or before
at_or_before : (calls next : List Call) → is_lt (slice_cmp call_cmp next calls) ≡ false → IsAtOrBefore calls next
at_or_before [] next h = tt
at_or_before (call ∷ calls) [] h = absurd (let no : true ≡ false = h in cc)
at_or_before (call ∷ calls) (other ∷ next) h = by call.arr call.dep other.arr other.dep (at_or_before calls next) h
  where
    by : (a d b e : ℕ) → (is_lt (slice_cmp call_cmp next calls) ≡ false → IsAtOrBefore calls next)
        → is_lt (ordering_then (ordering_then (nat_cmp b a) (nat_cmp e d)) (slice_cmp call_cmp next calls)) ≡ false
        → (a < b) ⊎ ((a ≡ b) × ((d < e) ⊎ ((d ≡ e) × IsAtOrBefore calls next)))
    by a d b e rest h =
        elim (cases_order a b) [
          | inr (inl lt) ↦ inl lt
          | inl same ↦ inr (
            same,
            elim (cases_order d e) [
              | inr (inl lt) ↦ inl lt
              | inl level ↦ inr (level, rest (rw (equal b a (sym same), equal e d (sym level)) at h))
              | inr (inr gt) ↦ absurd (let no : true ≡ false = rw (equal b a (sym same), less e d gt) at h in cc)
            ],
          )
          | inr (inr gt) ↦ absurd (let no : true ≡ false = rw (less b a gt) at h in cc)
        ]

same-call : (call other : Call) → (call.arr == other.arr) && (call.dep == other.dep) ≡ eq_by_cmp call_cmp call other
same-call call other = both_tied _ _ (nat_cmp call.arr other.arr) (nat_cmp call.dep other.dep) (sym (unsigned_tied call.arr other.arr)) (sym (unsigned_tied call.dep other.dep))

same-trips : (trip other : Trip) → same_seconds trip other ≡ is_eq (slice_cmp call_cmp trip.calls other.calls)
same-trips trip other = lists_ties call_cmp same-call trip.calls other.calls

tie : (r : Ordering) → not (is_lt r) && not (is_lt (ordering_reverse r)) ≡ is_eq r
tie Less = refl
tie Equal = refl
tie Greater = refl

-- trips tie where they have the same seconds
ties-same : (x y : Trip) → ties is_before x y ≡ same_seconds x y
ties-same x y =
    ap (λ (r : Ordering). not (is_before x y) && not (is_lt r)) (calls-total.antisymm y.calls x.calls) ∙ tie (trip_cmp x y) ∙ sym (same-trips x y)

-- trips with the same seconds have them in common with the same trips
same-as : (trip other third : Trip) → same_seconds trip other ≡ true → same_seconds trip third ≡ same_seconds other third
same-as trip other third h =
    same-trips trip third
    ∙ ap is_eq (calls-total.congr trip.calls other.calls third.calls (is_equal (slice_cmp call_cmp trip.calls other.calls) (sym (same-trips trip other) ∙ h)))
    ∙ sym (same-trips other third)
  where
    is_equal : (r : Ordering) → is_eq r ≡ true → r ≡ Equal
    is_equal Less h = cc
    is_equal Equal h = refl
    is_equal Greater h = cc

filter_none : {X : Type 0} (p : X → Bool) (xs : List X) → All (λ x. p x ≡ false) xs → filter p xs ≡ []
filter_none p [] h = refl
filter_none p (x ∷ xs) h =
    let here : p x ≡ false = All-head (λ x. p x ≡ false) x xs h in
    rw here (filter_none p xs (All-tail (λ x. p x ≡ false) x xs h))

fails : {X : Type 0} (p : X → Bool) (xs : List X) → filter p xs ≡ [] → All (λ x. p x ≡ false) xs
fails p [] h = All-nil (λ x. p x ≡ false)
fails p (x ∷ xs) h = by (p x) refl h (fails p xs)
  where
    by : (b : Bool) → p x ≡ b → cond b (x ∷ filter p xs) (filter p xs) ≡ [] → (filter p xs ≡ [] → All (λ y. p y ≡ false) xs) → All (λ y. p y ≡ false) (x ∷ xs)
    by true e h rest = cc
    by false e h rest = All-cons (λ y. p y ≡ false) x xs e (rest h)

-- either nothing passes, or what passes has a first
first-passing : {X : Type 0} (p : X → Bool) (xs : List X) → (filter p xs ≡ []) ⊎ ((x : X) × (p x ≡ true))
first-passing p [] = inl refl
first-passing p (x ∷ xs) = by (p x) refl (first-passing p xs)
  where
    by : (b : Bool) → p x ≡ b → (filter p xs ≡ []) ⊎ ((y : _) × (p y ≡ true)) → (cond b (x ∷ filter p xs) (filter p xs) ≡ []) ⊎ ((y : _) × (p y ≡ true))
    by true e rest = inr (x, e)
    by false e rest = rest

-- a stable sort keeps the order of those with the same seconds
ties-stay : (trips sorted : List Trip) → IsPermutation trips sorted → IsStableBy is_before trips sorted
    → (trip : Trip) → filter (same_seconds trip) sorted ≡ filter (same_seconds trip) trips
ties-stay trips sorted moves stable trip = by (first-passing (same_seconds trip) trips)
  where
    by : (filter (same_seconds trip) trips ≡ []) ⊎ ((x : Trip) × (same_seconds trip x ≡ true)) → filter (same_seconds trip) sorted ≡ filter (same_seconds trip) trips
    by (inl none) =
        filter_none (same_seconds trip) sorted (All-permutation (λ x. same_seconds trip x ≡ false) trips sorted moves (fails (same_seconds trip) trips none)) ∙ sym none
    by (inr (x, e)) =
        let agree : (y : Trip) → same_seconds trip y ≡ ties is_before x y = λ y. same-as trip x y e ∙ sym (ties-same x y) in
        filter_agree (same_seconds trip) (ties is_before x) agree sorted ∙ stable x ∙ sym (filter_agree (same_seconds trip) (ties is_before x) agree trips)

by-seconds : (sorted : List Trip) → IsSortedBy is_before sorted → AllAdjacentBelow (λ (trip next : Trip). IsAtOrBefore trip.calls next.calls) sorted (length sorted)
by-seconds sorted h k d low = at_or_before (get_or sorted k d).calls (get_or sorted (k + 1) d).calls (h k d (omega arith) low)

pub is-numbered : (trips sorted : List Trip) → IsPermutation trips sorted → IsSortedBy is_before sorted → IsStableBy is_before trips sorted → IsNumbered trips sorted
is-numbered trips sorted moves order stable = record {
  same_trips = moves;
  by_seconds = by-seconds sorted order;
  ties_stay = ties-stay trips sorted moves stable;
}
