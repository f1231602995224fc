-- Lists that grow item by item, and what holds of the items so far.
use Rattle.std.proofs.Common.{◌≡◌, ℕ, zero, suc, ◌+◌, ◌<◌, ◌≤◌, ◌⊎◌, List, [], ◌∷◌, ◌++◌, Some, None, length, slice_get, slice_index_or, refl, sym, ap, ◌∙◌, subst, inl, inr, arith}
use Rattle.std.specs.Prelude.{◌↔◌, Contains, Bool, true, false, not}
use Rattle.std.proofs.lemmas.Bool.{cases_eq, false≢true}
use Rattle.std.proofs.lemmas.Option.{slice_get_within, slice_get-get_or, get_or_from_slice_get}
use Rattle.std.proofs.lemmas.List.Elements.{Contains-append_left, Contains-push, Contains-push_cases}

-- one of the first k items
abbrev pub StandsBelow : {X : Type 0} → List X → ℕ → X → Type 0
StandsBelow xs k x = (i : ℕ) × (i < k) × (slice_get xs i ≡ Some x)

pub below_more : {X : Type 0} (xs : List X) (k : ℕ) (y x : X) → slice_get xs k ≡ Some y → StandsBelow xs (k + 1) x ↔ (StandsBelow xs k x ⊎ (y ≡ x))
below_more xs k y x is = (
  λ (i, low, at). elim (cases_eq i k) [
    | inl e ↦
        let same : Some y ≡ Some x = sym is ∙ ap (λ j. slice_get xs j) (sym e) ∙ at in
        inr (cc)
    | inr ne ↦ inl (i, omega (arith, low, ne), at)
  ],
  λ h. elim h [
    | inl has ↦ (has.0, omega (arith, has.1), has.2)
    | inr e ↦ (k, omega arith, is ∙ ap (λ z. Some z) e)
  ],
)

pub below_all : {X : Type 0} (xs : List X) (x : X) (k : ℕ) → length xs ≤ k → Contains xs x → StandsBelow xs k x
below_all xs x k all (i, low, e) = (i, omega (arith, low, all), slice_get-get_or xs i x low ∙ ap (λ z. Some z) e)

pub below_is : {X : Type 0} (xs : List X) (x : X) (k : ℕ) → StandsBelow xs k x → Contains xs x
below_is xs x k (i, low, e) = (i, slice_get_within xs i x e, get_or_from_slice_get xs i x x e)

pub push_has : {X : Type 0} (xs : List X) (y x : X) → Contains (xs ++ y ∷ []) x ↔ (Contains xs x ⊎ (y ≡ x))
push_has xs y x = (
  λ h. Contains-push_cases xs y x h,
  λ h. elim h [
    | inl has ↦ Contains-append_left xs (y ∷ []) x has
    | inr e ↦ subst (λ z. Contains (xs ++ y ∷ []) z) e (Contains-push xs y)
  ],
)

-- what has come by one step more
pub comes_more : (old mid new P Q R : Type 0) → mid ↔ (old ⊎ P) → new ↔ (mid ⊎ Q) → R ↔ (P ⊎ Q) → new ↔ (old ⊎ R)
comes_more old mid new P Q R was then both = (
  λ h. elim (then.0 h) [
    | inl m ↦ elim (was.0 m) [ inl o ↦ inl o | inr p ↦ inr (both.1 (inl p)) ]
    | inr q ↦ inr (both.1 (inr q))
  ],
  λ h. elim h [
    | inl o ↦ then.1 (inl (was.1 (inl o)))
    | inr r ↦ elim (both.0 r) [ inl p ↦ then.1 (inl (was.1 (inr p))) | inr q ↦ then.1 (inr q) ]
  ],
)

-- what has come by a step that brings nothing
pub comes_none : (old mid P R : Type 0) → mid ↔ (old ⊎ P) → R ↔ P → mid ↔ (old ⊎ R)
comes_none old mid P R was same = (
  λ h. elim (was.0 h) [ inl o ↦ inl o | inr p ↦ inr (same.1 p) ],
  λ h. elim h [ inl o ↦ was.1 (inl o) | inr r ↦ was.1 (inr (same.0 r)) ],
)

-- nothing has come before the first step
pub comes_first : (old P : Type 0) → (P → ⊥) → old ↔ (old ⊎ P)
comes_first old P none = (λ o. inl o, λ h. elim h [ inl o ↦ o | inr p ↦ absurd (none p) ])

-- past the end a list has the default
pub past_end : {X : Type 0} (xs : List X) (k : ℕ) (d : X) → slice_get xs k ≡ None → slice_index_or xs k d ≡ d
past_end [] k d none = refl
past_end (x ∷ xs) zero d none = absurd (cc)
past_end (x ∷ xs) (suc k) d none = past_end xs k d none

-- what has come to an empty list
pub comes_all : {X : Type 0} (x : X) (mid P R : Type 0) → mid ↔ (Contains {X = X} [] x ⊎ P) → R ↔ P → mid ↔ R
comes_all x mid P R was same = (
  λ h. elim (was.0 h) [ inl none ↦ absurd (omega (arith, none.1)) | inr p ↦ same.1 p ],
  λ r. was.1 (inr (same.0 r)),
)

pub true_unless : (b : Bool) → not b ≡ false → b ≡ true
true_unless true e = refl
true_unless false e = sym e

pub not_true : (b : Bool) → not b ≡ true → b ≡ true → ⊥
not_true true e f = false≢true e
not_true false e f = false≢true f

pub true_not : (b : Bool) → (b ≡ true → ⊥) → not b ≡ true
true_not true none = absurd (none refl)
true_not false none = refl
