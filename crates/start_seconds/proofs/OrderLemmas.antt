-- Starts that are sorted, each once, from the last to the first.
use Rattle.std.proofs.Common.{◌≡◌, ℕ, zero, suc, ◌+◌, ◌-◌, ◌<◌, Bool, true, false, List, [], ◌∷◌, length, slice_index_or, ◌==◌, ◌&&◌, IsPermutation, IsSorted, refl, sym, ap, ap₂, ◌∙◌, subst, inl, inr, arith, nat_cmp}
use Rattle.std.specs.Prelude.{Contains}
use Rattle.std.specs.declared.cmp.Ordering.{Ordering}
use Rattle.std.specs.declared.cmp.Ordering.TheVariants.{Less, Equal, Greater}
use Rattle.std.specs.Cmp.{IsTotalOrder, IsEquivalence}
use Rattle.std.specs.Ordering.{ordering_then, MatchOrdering, eq_by_cmp, is_eq}
use Rattle.std.specs.List.{dedup}
use Rattle.std.specs.List.Retain.{DiffersFromLast, IsFiltered}
use Rattle.std.specs.List.{AllAdjacentBelow, ReversedBelow}
use Rattle.std.specs.List.Sorted.{IsStrictlySortedBy}
use Rattle.std.proofs.lemmas.Bool.{eqb-true}
use Rattle.std.proofs.lemmas.Bool.Decides.{eqb_tells}
use Rattle.std.proofs.lemmas.List.Filters.{dedup_is}
use Rattle.std.proofs.lemmas.List.Kept.{Contains-dedup, Contains-from_dedup, IsStrictlySortedBy-dedup}
use Rattle.std.proofs.lemmas.List.Sorted.{Contains-permutation, IsPermutation-sym}
use Rattle.std.proofs.lemmas.Cmp.{ranked, then_total, on_total, nat_cmp_total, and_equiv, on_equiv, nat_eq_equiv}
use Rattle.start_seconds.specs.declared.start.Start.{Start}
use Rattle.start_seconds.specs.Starts.{IsLater}

-- the order that is derived
abbrev pub start_cmp : Start → Start → Ordering
start_cmp a b = ordering_then (nat_cmp a.place b.place) (nat_cmp a.second b.second)

later_by : (a b : Start) (r s : Ordering) → MatchOrdering r (a.place < b.place) (a.place ≡ b.place) (b.place < a.place)
    → MatchOrdering s (a.second < b.second) (a.second ≡ b.second) (b.second < a.second) → ordering_then r s ≡ Less → IsLater b a
later_by a b Less s place second less = inl place
later_by a b Equal Less place second less = inr (place, second)
later_by a b Equal Equal place second less = absurd (cc)
later_by a b Equal Greater place second less = absurd (cc)
later_by a b Greater s place second less = absurd (cc)

pub later_less : (a b : Start) → start_cmp a b ≡ Less → IsLater b a
later_less a b less =
    later_by a b (nat_cmp a.place b.place) (nat_cmp a.second b.second) (ranked a.place b.place (nat_cmp a.place b.place) refl)
    (ranked a.second b.second (nat_cmp a.second b.second) refl) less

adjacent : (xs : List Start) → IsStrictlySortedBy start_cmp xs → (k : ℕ) (d : Start) → k + 1 < length xs → start_cmp (slice_index_or xs k d) (slice_index_or xs (k + 1) d) ≡ Less
unfolding IsStrictlySortedBy
adjacent [] sorted k d lt = absurd (omega arith)
adjacent (x ∷ []) sorted k d lt = absurd (omega arith)
adjacent (x ∷ y ∷ xs) sorted zero d lt = sorted.0.0
adjacent (x ∷ y ∷ xs) sorted (suc k) d lt =
    let e : suc (k + 1) ≡ suc k + 1 = omega arith in
    subst (λ (n : ℕ). start_cmp (slice_index_or (y ∷ xs) k d) (slice_index_or (x ∷ y ∷ xs) n d) ≡ Less) e (adjacent (y ∷ xs) sorted.1 k d (omega arith))

-- each start is searched from before the next
pub falling_reversed : (xs ys : List Start) → IsStrictlySortedBy start_cmp xs → ReversedBelow xs ys (length xs) → length ys ≡ length xs → AllAdjacentBelow IsLater ys (length ys)
falling_reversed xs ys sorted reversed long k d lt =
    let n = length xs in
    let first = reversed k d (omega (arith, lt, long)) in
    let second = reversed (k + 1) d (omega (arith, lt, long)) in
    let i : ℕ = length xs - 1 - (k + 1) in
    let e : i + 1 ≡ length xs - 1 - k = omega (arith, lt, long) in
    let less = later_less (slice_index_or xs i d) (slice_index_or xs (i + 1) d) (adjacent xs sorted i d (omega (arith, lt, long))) in
    rw (first, second) (subst (λ (m : ℕ). IsLater (slice_index_or xs m d) (slice_index_or xs i d)) e less)

-- the equality that is derived
abbrev pub start_eq : Start → Start → Bool
start_eq a b = (a.place == b.place) && (a.second == b.second)

total : IsTotalOrder start_cmp
total = then_total (on_total (λ (s : Start). s.place) nat_cmp_total) (on_total (λ (s : Start). s.second) nat_cmp_total)

equivalence : IsEquivalence start_eq
equivalence = and_equiv (on_equiv (λ (s : Start). s.place) nat_eq_equiv) (on_equiv (λ (s : Start). s.second) nat_eq_equiv)

both_true : (a b : Bool) → (a && b) ≡ true → (a ≡ true) × (b ≡ true)
both_true true b both = (refl, both)
both_true false b both = absurd (cc)

same_start : (x y : Start) → start_eq x y ≡ true → x ≡ y
same_start x y eq =
    let both = both_true (x.place == y.place) (x.second == y.second) eq in
    let place = eqb-true x.place y.place both.0 in
    let second = eqb-true x.second y.second both.1 in
    ap (λ (p : ℕ). let s : Start = record { place = p; second = x.second } in s) place ∙ ap (λ (z : ℕ). let s : Start = record { place = y.place; second = z } in s) second

-- two numbers are equal where their order says so
tie : (x y : ℕ) (r : Ordering) → MatchOrdering r (x < y) (x ≡ y) (y < x) → (x == y) ≡ is_eq r
tie x y Less lt = elim (eqb_tells x y) [ inl told ↦ absurd (omega (arith, told.1)) | inr apart ↦ apart.0 ]
tie x y Equal same = elim (eqb_tells x y) [ inl told ↦ told.0 | inr apart ↦ absurd (apart.1 same) ]
tie x y Greater gt = elim (eqb_tells x y) [ inl told ↦ absurd (omega (arith, told.1)) | inr apart ↦ apart.0 ]

tie_then : (r s : Ordering) → (is_eq r && is_eq s) ≡ is_eq (ordering_then r s)
tie_then Less s = refl
tie_then Equal s = refl
tie_then Greater s = refl

ties : (x y : Start) → start_eq x y ≡ eq_by_cmp start_cmp x y
ties x y =
    ap₂ (λ (a b : Bool). a && b) (tie x.place y.place (nat_cmp x.place y.place) (ranked x.place y.place (nat_cmp x.place y.place) refl))
    (tie x.second y.second (nat_cmp x.second y.second) (ranked x.second y.second (nat_cmp x.second y.second) refl))
    ∙ tie_then (nat_cmp x.place y.place) (nat_cmp x.second y.second)

module _ (old sorted kept new : List Start) (moved : IsPermutation old sorted) (rises : IsSorted start_cmp sorted) (filtered : IsFiltered (DiffersFromLast start_eq) [] sorted kept) where
  kept_is : kept ≡ dedup start_eq sorted
  kept_is = dedup_is start_eq sorted kept filtered

  pub same_starts : IsPermutation kept new → (s : Start) → (Contains new s → Contains old s) × (Contains old s → Contains new s)
  same_starts turned s = (
    λ there.
        let in_kept = Contains-permutation new kept s (IsPermutation-sym kept new turned) there in
        let in_sorted = Contains-from_dedup start_eq sorted s (subst (λ (xs : List Start). Contains xs s) kept_is in_kept) in
        Contains-permutation sorted old s (IsPermutation-sym old sorted moved) in_sorted,
    λ there.
        let in_sorted = Contains-permutation old sorted s moved there in
        let in_kept = subst (λ (xs : List Start). Contains xs s) (sym kept_is) (Contains-dedup equivalence same_start sorted s in_sorted) in
        Contains-permutation kept new s turned in_kept,
  )

  pub falling_starts : ReversedBelow kept new (length kept) → length new ≡ length kept → AllAdjacentBelow IsLater new (length new)
  falling_starts reversed long =
      falling_reversed kept new (subst (λ (xs : List Start). IsStrictlySortedBy start_cmp xs) (sym kept_is) (IsStrictlySortedBy-dedup total ties sorted rises)) reversed long
