-- Entries of keys, and the lexicographic order.
use Rattle.std.proofs.Common.{◌≡◌, ◌≢◌, ℕ, ◌+◌, ◌⊎◌, List, [], ◌∷◌, length, refl, sym, ap, subst, inl, inr, arith}
use Rattle.std.proofs.lemmas.Bool.{cases_lt, cases_eq, eq-eqb, ne_eqb}
use Rattle.move_model.specs.declared.network.StopNo.{StopNo}
use Rattle.move_model.specs.Shortcut.{entry_of, IsLess}
use Rattle.pareto_laws.proofs.Calls.{stop_eq}
use Rattle.pareto_laws.proofs.Lexicographic.{IsLess-trans}
use Rattle.piece_laws.specs.declared.labels.Ready.{Ready}
use Rattle.piece_laws.specs.declared.labels.Second.{Second}
use Rattle.piece_laws.specs.Pieces.{ready_entries, second_entries}

-- an entry that isn't 0 names its stop, which is not the other one
pub record IsOther (w x y : StopNo) : Type 0 where
  pub same : w ≡ x
  pub other : w ≢ y

pub entry_of_is : (w x y : StopNo) → entry_of w y ≡ 1 + x.0 → IsOther w x y
entry_of_is w x y e = elim (cases_eq w.0 y.0) [
  | inl h ↦ absurd (none h (rw (eq-eqb w.0 y.0 h) at e))
  | inr h ↦ let f = rw (ne_eqb w.0 y.0 h) at e in record { same = stop_eq w x (omega arith); other = λ g. h (ap (λ (s : StopNo). s.0) g) }
]
  where
    none : w.0 ≡ y.0 → 0 ≡ 1 + x.0 → ⊥
    none h e = omega arith

-- two lists of one length of which neither is less are one
pub same_list : (xs ys : List ℕ) → length xs ≡ length ys → (IsLess xs ys → ⊥) → (IsLess ys xs → ⊥) → xs ≡ ys
same_list [] [] e f g = refl
same_list [] (y ∷ ys) e f g = absurd (omega arith)
same_list (x ∷ xs) [] e f g = absurd (omega arith)
same_list (x ∷ xs) (y ∷ ys) e f g =
    elim (cases_lt x y) [
      | inl l ↦ absurd (f (inl l))
      | inr l ↦ elim (cases_lt y x) [
        | inl k ↦ absurd (g (inl k))
        | inr k ↦
            let h : x ≡ y = omega arith in
            let t : xs ≡ ys = same_list xs ys (omega arith) (λ p. f (inr (h, p))) (λ p. g (inr (omega arith, p))) in cc
      ]
    ]

-- of two lists of one length the one is less, or the other isn't greater
pub less_or_not : (xs ys : List ℕ) → IsLess xs ys ⊎ ¬ (IsLess xs ys)
less_or_not [] ys = inr (λ h. h)
less_or_not (x ∷ xs) [] = inr (λ h. h)
less_or_not (x ∷ xs) (y ∷ ys) =
    elim (cases_lt x y) [
      | inl l ↦ inl (inl l)
      | inr l ↦ elim (cases_lt y x) [
        | inl k ↦ inr (λ h. elim h [ inl p ↦ omega (arith, p) | inr p ↦ omega (arith, p.0) ])
        | inr k ↦ elim (less_or_not xs ys) [
          | inl p ↦ inl (inr (omega arith, p))
          | inr f ↦ inr (λ h. elim h [ inl p ↦ omega (arith, p) | inr p ↦ f p.1 ])
        ]
      ]
    ]

pub ready_eq : (l m : Ready) → ready_entries l ≡ ready_entries m → l ≡ m
ready_eq l m e =
    let f : l.ready ≡ m.ready = cc in
    let g : l.a1 ≡ m.a1 = cc in
    let h : l.c ≡ m.c = cc in
    λ i. record { ready = f i; a1 = g i; c = h i }

pub second_eq : (l m : Second) → second_entries l ≡ second_entries m → l ≡ m
second_eq l m e =
    let p : l.a2 ≡ m.a2 = cc in
    let q : l.trip ≡ m.trip = cc in
    let r : l.y ≡ m.y = cc in
    let f : l.label.ready ≡ m.label.ready = cc in
    let g : l.label.a1 ≡ m.label.a1 = cc in
    let h : l.label.c ≡ m.label.c = cc in
    λ i. record { a2 = p i; trip = q i; y = r i; label = record { ready = f i; a1 = g i; c = h i } }

-- what isn't greater than a list that is less, is less
pub less_before : (xs ys zs : List ℕ) → length xs ≡ length ys → ¬ (IsLess ys xs) → IsLess ys zs → IsLess xs zs
less_before xs ys zs e none less =
    elim (less_or_not xs ys) [
      | inl h ↦ IsLess-trans xs ys zs h less
      | inr h ↦ subst (λ (q : List ℕ). IsLess q zs) (sym (same_list xs ys e h none)) less
    ]

-- and so on the other side
pub less_after : (xs ys zs : List ℕ) → length ys ≡ length zs → ¬ (IsLess zs ys) → IsLess xs ys → IsLess xs zs
less_after xs ys zs e none less =
    elim (less_or_not ys zs) [
      | inl h ↦ IsLess-trans xs ys zs less h
      | inr h ↦ subst (λ (q : List ℕ). IsLess xs q) (same_list ys zs e h none) less
    ]

pub not_less-trans : (xs ys zs : List ℕ) → length xs ≡ length ys → ¬ (IsLess ys xs) → ¬ (IsLess zs ys) → ¬ (IsLess zs xs)
not_less-trans xs ys zs e f g less = g (less_after zs xs ys e f less)
