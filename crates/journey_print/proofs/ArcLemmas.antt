-- The least arc of a list of arcs between two vertices.
use Rattle.std.proofs.Common.{◌≡◌, ◌∙◌, ℕ, zero, suc, ◌+◌, ◌≤◌, ◌<◌, ◌⊎◌, ◌&&◌, eqb, true, false, List, [], ◌∷◌, length, drop, get_or, unwrap_or, refl, sym, ap, subst, inl, inr, arith, Option, Some, None}
use Rattle.std.specs.Prelude.{Contains}
use Rattle.std.proofs.lemmas.Bool.{cases_Bool, cases_lt, and_parts, eqb-true, eq-eqb, true≢false}
use Rattle.std.proofs.lemmas.List.{drop_more, drop_all}
use Rattle.move_model.specs.declared.network.NodeNo.{NodeNo}
use Rattle.move_model.specs.declared.network.Arc.{Arc}
use Rattle.move_model.specs.Streets.{IsLeastArc, HasLeastArc}
use Rattle.journey_print.specs.Legs.{lesser, seconds_between, least_arc, least_seconds}

pub lesser_assoc : (a b c : Option ℕ) → lesser a (lesser b c) ≡ lesser (lesser a b) c
lesser_assoc None b c = refl
lesser_assoc (Some l) None c = refl
lesser_assoc (Some l) (Some m) None = refl
lesser_assoc (Some l) (Some m) (Some k) = ap (λ n. Some n) (omega arith)

pub lesser_none : (a : Option ℕ) → lesser a None ≡ a
lesser_none None = refl
lesser_none (Some l) = refl

-- the steps of a loop over the arcs
pub least_arc-drop : (arcs : List Arc) (p q : NodeNo) (i : ℕ) (d : Arc) (o o' : Option ℕ) → i < length arcs
    → o' ≡ lesser o (seconds_between (get_or arcs i d) p q)
    → lesser o (least_arc (drop i arcs) p q) ≡ least_arc arcs p q
    → lesser o' (least_arc (drop (i + 1) arcs) p q) ≡ least_arc arcs p q
unfolding least_arc
least_arc-drop arcs p q i d o o' within is was =
    rw (is, ← lesser_assoc o (seconds_between (get_or arcs i d) p q) (least_arc (drop (i + 1) arcs) p q)) (rw (drop_more arcs i d within) at was)

pub least_arc-end : (arcs : List Arc) (p q : NodeNo) (i : ℕ) (o : Option ℕ) → length arcs ≤ i
    → lesser o (least_arc (drop i arcs) p q) ≡ least_arc arcs p q → o ≡ least_arc arcs p q
unfolding least_arc
least_arc-end arcs p q i o past was =
    let none : drop i arcs ≡ [] = drop_all i arcs past in
    sym (lesser_none o) ∙ (ap (λ us. lesser o (least_arc us p q)) (sym none) ∙ was)

node_eq : (a b : NodeNo) → a.0 ≡ b.0 → a ≡ b
node_eq a b e = ap (λ (k : ℕ). let v : NodeNo = record { 0 = k } in v) e

arc_eq : (arc : Arc) (p q : NodeNo) (m : ℕ) → arc.from ≡ p → arc.to ≡ q → arc.seconds ≡ m
    → arc ≡ record { from = p; to = q; seconds = m }
arc_eq arc p q m from_is to_is seconds_is = λ i. record { from = from_is i; to = to_is i; seconds = seconds_is i }

Contains-cons_cases : {X : Type 0} (y : X) (xs : List X) (x : X) → Contains (y ∷ xs) x → (y ≡ x) ⊎ Contains xs x
Contains-cons_cases y xs x (zero, h, e) = inl e
Contains-cons_cases y xs x (suc k, h, e) = inr (k, omega (arith, h), e)

Contains-later : {X : Type 0} (y : X) (xs : List X) (x : X) → Contains xs x → Contains (y ∷ xs) x
Contains-later y xs x h = (suc h.0, omega (arith, h.1), h.2)

-- an arc with these ends in front of the others
same_ends : (arc : Arc) (arcs : List Arc) (p q : NodeNo) (o : Option ℕ) → arc.from.0 ≡ p.0 → arc.to.0 ≡ q.0
    → HasLeastArc arcs p q o → HasLeastArc (arc ∷ arcs) p q (lesser (Some arc.seconds) o)
same_ends arc arcs p q o from_is to_is has = go o has
  where
    here : Contains (arc ∷ arcs) (record { from = p; to = q; seconds = arc.seconds })
    here = (0, omega arith, arc_eq arc p q arc.seconds (node_eq arc.from p from_is) (node_eq arc.to q to_is) refl)

    seconds_of : (k : ℕ) → arc ≡ record { from = p; to = q; seconds = k } → arc.seconds ≡ k
    seconds_of k e = ap (λ (a : Arc). a.seconds) e

    go : (o : Option ℕ) → HasLeastArc arcs p q o → HasLeastArc (arc ∷ arcs) p q (lesser (Some arc.seconds) o)
    go None has =
        record {
          attained = here;
          least = λ k h. elim (Contains-cons_cases arc arcs (record { from = p; to = q; seconds = k }) h) [
            | inl e ↦ omega (arith, seconds_of k e)
            | inr g ↦ absurd (has k g)
          ];
        }
    go (Some m) has =
        record {
          attained = elim (cases_lt m arc.seconds) [
            | inl l ↦
                subst (λ k. Contains (arc ∷ arcs) (record { from = p; to = q; seconds = k })) (omega arith)
                (Contains-later arc arcs (record { from = p; to = q; seconds = m }) has.attained)
            | inr l ↦ subst (λ k. Contains (arc ∷ arcs) (record { from = p; to = q; seconds = k })) (omega arith) here
          ];
          least = λ k h. elim (Contains-cons_cases arc arcs (record { from = p; to = q; seconds = k }) h) [
            | inl e ↦ omega (arith, seconds_of k e)
            | inr g ↦ omega (arith, has.least k g)
          ];
        }

-- an arc with other ends in front of the others
other_ends : (arc : Arc) (arcs : List Arc) (p q : NodeNo) (o : Option ℕ) → ((arc.from.0 ≡ p.0) × (arc.to.0 ≡ q.0) → ⊥)
    → HasLeastArc arcs p q o → HasLeastArc (arc ∷ arcs) p q o
other_ends arc arcs p q (Some m) other has =
    record {
      attained = Contains-later arc arcs (record { from = p; to = q; seconds = m }) has.attained;
      least = λ k h. elim (Contains-cons_cases arc arcs (record { from = p; to = q; seconds = k }) h) [
        | inl e ↦ absurd (other (ap (λ (a : Arc). a.from.0) e, ap (λ (a : Arc). a.to.0) e))
        | inr g ↦ has.least k g
      ];
    }
other_ends arc arcs p q None other has =
    λ k h. elim (Contains-cons_cases arc arcs (record { from = p; to = q; seconds = k }) h) [
      | inl e ↦ other (ap (λ (a : Arc). a.from.0) e, ap (λ (a : Arc). a.to.0) e)
      | inr g ↦ has k g
    ]

seconds_between-is : (arc : Arc) (p q : NodeNo) → (eqb arc.from.0 p.0 && eqb arc.to.0 q.0) ≡ true → seconds_between arc p q ≡ Some arc.seconds
unfolding seconds_between
seconds_between-is arc p q e = rw e refl

seconds_between-none : (arc : Arc) (p q : NodeNo) → (eqb arc.from.0 p.0 && eqb arc.to.0 q.0) ≡ false → seconds_between arc p q ≡ None
unfolding seconds_between
seconds_between-none arc p q e = rw e refl

apart : (a b c d : ℕ) → (eqb a b && eqb c d) ≡ false → (a ≡ b) × (c ≡ d) → ⊥
apart a b c d e h = true≢false (sym (rw (eq-eqb a b h.0, eq-eqb c d h.1) refl) ∙ e)

-- the value is the least arc's
pub least_arc_has : (arcs : List Arc) (p q : NodeNo) → HasLeastArc arcs p q (least_arc arcs p q)
unfolding least_arc
least_arc_has [] p q = λ m h. omega (arith, h.1)
least_arc_has (arc ∷ arcs) p q =
    elim (cases_Bool (eqb arc.from.0 p.0 && eqb arc.to.0 q.0)) [
      | inl e ↦
          let ends = and_parts (eqb arc.from.0 p.0) (eqb arc.to.0 q.0) e in
          subst (λ o. HasLeastArc (arc ∷ arcs) p q (lesser o (least_arc arcs p q))) (sym (seconds_between-is arc p q e))
          (same_ends arc arcs p q (least_arc arcs p q) (eqb-true _ _ ends.0) (eqb-true _ _ ends.1) (least_arc_has arcs p q))
      | inr e ↦
          subst (λ o. HasLeastArc (arc ∷ arcs) p q (lesser o (least_arc arcs p q))) (sym (seconds_between-none arc p q e))
          (other_ends arc arcs p q (least_arc arcs p q) (apart _ _ _ _ e) (least_arc_has arcs p q))
    ]

pub least_seconds_is : (arcs : List Arc) (p q : NodeNo) (m : ℕ) → IsLeastArc arcs p q m → least_seconds arcs p q ≡ m
least_seconds_is arcs p q m is = go (least_arc arcs p q) (least_arc_has arcs p q)
  where
    go : (o : Option ℕ) → HasLeastArc arcs p q o → unwrap_or o 0 ≡ m
    go None none = absurd (none m is.attained)
    go (Some k) has = omega (arith, is.least k has.attained, has.least m is.attained)
