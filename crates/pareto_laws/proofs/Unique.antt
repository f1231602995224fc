-- Two strictly rising lists of the same elements are equal.
use Rattle.std.proofs.Common.{◌≡◌, ℕ, zero, suc, ◌+◌, ◌<◌, ◌↔◌, List, [], ◌∷◌, length, get_or, refl, sym, ap, ◌∙◌, subst, inl, inr, arith}
use Rattle.std.specs.Prelude.{Contains}
use Rattle.std.specs.List.{AllAdjacentBelow}
use Rattle.move_model.specs.declared.network.Network.{Network}
use Rattle.move_model.specs.declared.network.NodeNo.{NodeNo}
use Rattle.move_model.specs.declared.journey.Pair.{Pair}
use Rattle.move_model.specs.declared.journey.Shortcut.{Shortcut}
use Rattle.move_model.specs.Shortcut.{IsLess, IsShortcutList}
use Rattle.move_model.specs.Journey.{IsParetoList}
use Rattle.pareto_laws.proofs.Lexicographic.{IsLess-irreflexive, IsLess-trans}
use Rattle.pareto_laws.proofs.LeastArcs.{Contains-here, Contains-later, Contains-cons_cases}

module _ {X : Type 0} (R : X → X → Type 0) (irreflexive : (x : X) → R x x → ⊥) (trans : (x y z : X) → R x y → R y z → R x z) where
  abbrev Rises : List X → Type 0
  Rises xs = AllAdjacentBelow R xs (length xs)

  Rises-tail : (x : X) (xs : List X) → Rises (x ∷ xs) → Rises xs
  Rises-tail x xs rises k d h =
      let e : suc k + 1 ≡ suc (k + 1) = omega arith in
      subst (λ j. R (get_or xs k d) (get_or (x ∷ xs) j d)) e (rises (suc k) d (omega arith))

  head_before : (x : X) (xs : List X) → Rises (x ∷ xs) → (k : ℕ) (d : X) → k < length xs → R x (get_or xs k d)
  head_before x [] rises k d h = absurd (omega arith)
  head_before x (y ∷ xs) rises zero d h = rises 0 d (omega arith)
  head_before x (y ∷ xs) rises (suc k) d h =
      trans x y (get_or xs k d) (rises 0 d (omega arith)) (head_before y xs (Rises-tail x (y ∷ xs) rises) k d (omega arith))

  before_all : (x : X) (xs : List X) → Rises (x ∷ xs) → (y : X) → Contains xs y → R x y
  before_all x xs rises y (k, h, e) = subst (λ z. R x z) e (head_before x xs rises k y h)

  none_in_empty : (x : X) → Contains [] x → ⊥
  none_in_empty x h = omega (arith, h.1)

  pub rising_unique : (xs ys : List X) → Rises xs → Rises ys → ((x : X) → Contains xs x ↔ Contains ys x) → xs ≡ ys
  rising_unique [] [] _ _ same = refl
  rising_unique [] (y ∷ ys) _ _ same = absurd (none_in_empty y ((same y).1 (Contains-here y ys)))
  rising_unique (x ∷ xs) [] _ _ same = absurd (none_in_empty x ((same x).0 (Contains-here x xs)))
  rising_unique (x ∷ xs) (y ∷ ys) xs_rise ys_rise same =
      let heads : y ≡ x = elim (Contains-cons_cases y ys x ((same x).0 (Contains-here x xs))) [
        | inl e ↦ e
        | inr later ↦ elim (Contains-cons_cases x xs y ((same y).1 (Contains-here y ys))) [
          | inl e ↦ sym e
          | inr later' ↦ absurd (irreflexive x (trans x y x (before_all x xs xs_rise y later') (before_all y ys ys_rise x later)))
        ]
      ] in
      let tails : xs ≡ ys = rising_unique xs ys (Rises-tail x xs xs_rise) (Rises-tail y ys ys_rise) (λ z. (
        λ h. elim (Contains-cons_cases y ys z ((same z).0 (Contains-later x xs z h))) [
          | inl e ↦ absurd (irreflexive z (subst (λ v. R v z) (sym heads ∙ e) (before_all x xs xs_rise z h)))
          | inr g ↦ g
        ],
        λ h. elim (Contains-cons_cases x xs z ((same z).1 (Contains-later y ys z h))) [
          | inl e ↦ absurd (irreflexive z (subst (λ v. R v z) (heads ∙ e) (before_all y ys ys_rise z h)))
          | inr g ↦ g
        ],
      )) in
      ap (λ v. v ∷ xs) (sym heads) ∙ ap (λ vs. y ∷ vs) tails

-- lists that hold exactly the same things
same_members : {X : Type 0} (P : X → Type 0) (xs ys : List X) → ((x : X) → Contains xs x ↔ P x) → ((x : X) → Contains ys x ↔ P x)
    → (x : X) → Contains xs x ↔ Contains ys x
same_members P xs ys left right x = (λ h. (right x).1 ((left x).0 h), λ h. (left x).1 ((right x).0 h))

pub shortcuts_unique : (n : Network) (xs ys : List Shortcut) → IsShortcutList n xs → IsShortcutList n ys → xs ≡ ys
shortcuts_unique n xs ys left right =
    rising_unique (λ (a b : Shortcut). IsLess (a.from.0 ∷ a.to.0 ∷ []) (b.from.0 ∷ b.to.0 ∷ []))
    (λ a. IsLess-irreflexive (a.from.0 ∷ a.to.0 ∷ []))
    (λ a b c. IsLess-trans (a.from.0 ∷ a.to.0 ∷ []) (b.from.0 ∷ b.to.0 ∷ []) (c.from.0 ∷ c.to.0 ∷ []))
    xs ys left.rising right.rising (same_members _ xs ys left.exact right.exact)

pub pairs_unique : (n : Network) (s : NodeNo) (d : ℕ) (t : NodeNo) (limit : ℕ) (xs ys : List Pair)
    → IsParetoList n s d t limit xs → IsParetoList n s d t limit ys → xs ≡ ys
pairs_unique n s d t limit xs ys left right =
    rising_unique (λ (p q : Pair). p.trips < q.trips) (λ p h. omega (arith, h)) (λ p q r h g. omega (arith, h, g))
    xs ys left.rising right.rising (same_members _ xs ys left.exact right.exact)
