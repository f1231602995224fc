-- The least arc of a list of arcs between two vertices: by recursion, and one arc after another.
use Rattle.std.proofs.Common.{◌≡◌, ℕ, suc, zero, ◌+◌, ◌<◌, ◌≤◌, ◌⊎◌, cond, ◌&&◌, eqb, List, [], ◌∷◌, ◌++◌, length, take, take_all, get_or, min, refl, sym, ap, subst, inl, inr, arith, Option, Some, None}
use Rattle.std.specs.Prelude.{Contains}
use Rattle.std.proofs.lemmas.Bool.{cases_lt, and_parts, eqb-true, eq-eqb}
use Rattle.std.proofs.lemmas.Option.{cond_some}
use Rattle.std.proofs.lemmas.List.{take_more}
use Rattle.std.proofs.lemmas.List.Elements.{Contains-append_left, Contains-push, Contains-push_cases}
use Rattle.move_model.specs.declared.network.NodeNo.{NodeNo}
use Rattle.move_model.specs.declared.network.Arc.{Arc}
use Rattle.move_model.specs.Streets.{IsLeastArc, HasLeastArc}
use Rattle.pareto_laws.proofs.Optionals.{AtMost, lesser, lesser_left, lesser_right, lesser_is}

pub node_eq : (a b : NodeNo) → a.0 ≡ b.0 → a ≡ b
node_eq a b e = ap (λ (k : ℕ). let v : NodeNo = record { 0 = k } in v) e

pub Contains-here : {X : Type 0} (x : X) (xs : List X) → Contains (x ∷ xs) x
Contains-here x xs = (0, omega arith, refl)

pub Contains-later : {X : Type 0} (y : X) (xs : List X) (x : X) → Contains xs x → Contains (y ∷ xs) x
Contains-later y xs x h = (suc h.0, omega (arith, h.1), h.2)

pub Contains-cons_cases : {X : Type 0} (y : X) (xs : List X) (x : X) → Contains (y ∷ xs) x → (y ≡ x) ⊎ Contains xs x
Contains-cons_cases y xs x (zero, h, e) = inl e
Contains-cons_cases y xs x (suc k, h, e) = inr (k, omega (arith, h), e)

one_arc : Arc → NodeNo → NodeNo → Option ℕ
one_arc arc p q = cond (eqb arc.from.0 p.0 && eqb arc.to.0 q.0) (Some arc.seconds) None

pub least_arc : List Arc → NodeNo → NodeNo → Option ℕ
least_arc [] p q = None
least_arc (arc ∷ arcs) p q = lesser (one_arc arc p q) (least_arc arcs p q)

one_arc_reached : (p q : NodeNo) (m : ℕ) → AtMost (one_arc (record { from = p; to = q; seconds = m }) p q) m
unfolding one_arc
one_arc_reached p q m =
    rw (eq-eqb p.0 p.0 refl, eq-eqb q.0 q.0 refl) (omega arith)

pub arc_eq : (arc : Arc) (p q : NodeNo) (m : ℕ) → arc.from ≡ p → arc.to ≡ q → arc.seconds ≡ m
    → arc ≡ record { from = p; to = q; seconds = m }
arc_eq arc p q m from_is to_is seconds_is = λ i. record { from = from_is i; to = to_is i; seconds = seconds_is i }

one_arc_is : (arc : Arc) (p q : NodeNo) (m : ℕ) → one_arc arc p q ≡ Some m → arc ≡ record { from = p; to = q; seconds = m }
unfolding one_arc
one_arc_is arc p q m e =
    let h = cond_some (eqb arc.from.0 p.0 && eqb arc.to.0 q.0) arc.seconds m e in
    let ends = and_parts (eqb arc.from.0 p.0) (eqb arc.to.0 q.0) h.0 in
    arc_eq arc p q m (node_eq arc.from p (eqb-true _ _ ends.0)) (node_eq arc.to q (eqb-true _ _ ends.1)) h.1

pub least_arc_reached : (arcs : List Arc) (p q : NodeNo) (m : ℕ) → Contains arcs (record { from = p; to = q; seconds = m })
    → AtMost (least_arc arcs p q) m
unfolding least_arc
least_arc_reached [] p q m h = absurd (omega (arith, h.1))
least_arc_reached (arc ∷ arcs) p q m h =
    elim (Contains-cons_cases arc arcs (record { from = p; to = q; seconds = m }) h) [
      | inl e ↦ lesser_left (one_arc arc p q) (least_arc arcs p q) m (subst (λ a. AtMost (one_arc a p q) m) (sym e) (one_arc_reached p q m))
      | inr g ↦ lesser_right (one_arc arc p q) (least_arc arcs p q) m (least_arc_reached arcs p q m g)
    ]

least_arc_is : (arcs : List Arc) (p q : NodeNo) (m : ℕ) → least_arc arcs p q ≡ Some m
    → Contains arcs (record { from = p; to = q; seconds = m })
unfolding least_arc
least_arc_is [] p q m e = absurd (cc)
least_arc_is (arc ∷ arcs) p q m e =
    elim (lesser_is (one_arc arc p q) (least_arc arcs p q) m e) [
      | inl f ↦ subst (λ a. Contains (a ∷ arcs) (record { from = p; to = q; seconds = m })) (sym (one_arc_is arc p q m f)) (Contains-here (record { from = p; to = q; seconds = m }) arcs)
      | inr f ↦ Contains-later arc arcs (record { from = p; to = q; seconds = m }) (least_arc_is arcs p q m f)
    ]

pub least_arc_of : (arcs : List Arc) (p q : NodeNo) (l : ℕ) → least_arc arcs p q ≡ Some l → IsLeastArc arcs p q l
least_arc_of arcs p q l e =
    record {
      attained = least_arc_is arcs p q l e;
      least = λ k h. subst (λ o. AtMost o k) e (least_arc_reached arcs p q k h);
    }

-- one more arc with other ends
pub HasLeastArc-other : (arcs : List Arc) (p q : NodeNo) (o : Option ℕ) (arc : Arc) → ((arc.from.0 ≡ p.0) × (arc.to.0 ≡ q.0) → ⊥)
    → HasLeastArc arcs p q o → HasLeastArc (arcs ++ arc ∷ []) p q o
HasLeastArc-other arcs p q (Some m) arc other has =
    record {
      attained = Contains-append_left arcs (arc ∷ []) (record { from = p; to = q; seconds = m }) has.attained;
      least = λ k h. elim (Contains-push_cases arcs arc (record { from = p; to = q; seconds = k }) h) [
        | inl g ↦ has.least k g
        | inr e ↦ absurd (other (ap (λ (a : Arc). a.from.0) e, ap (λ (a : Arc). a.to.0) e))
      ];
    }
HasLeastArc-other arcs p q None arc other has =
    λ k h. elim (Contains-push_cases arcs arc (record { from = p; to = q; seconds = k }) h) [
      | inl g ↦ has k g
      | inr e ↦ other (ap (λ (a : Arc). a.from.0) e, ap (λ (a : Arc). a.to.0) e)
    ]

-- one more arc with these ends
abbrev pub least_with : Option ℕ → ℕ → ℕ
least_with None k = k
least_with (Some m) k = min m k

pub HasLeastArc-same : (arcs : List Arc) (p q : NodeNo) (o : Option ℕ) (arc : Arc) → arc.from.0 ≡ p.0 → arc.to.0 ≡ q.0
    → HasLeastArc arcs p q o → HasLeastArc (arcs ++ arc ∷ []) p q (Some (least_with o arc.seconds))
HasLeastArc-same arcs p q o arc from_is to_is has = go o has
  where
    last : Contains (arcs ++ arc ∷ []) (record { from = p; to = q; seconds = arc.seconds })
    last = subst (λ (a : Arc). Contains (arcs ++ arc ∷ []) a) (arc_eq arc p q arc.seconds (node_eq arc.from p from_is) (node_eq arc.to q to_is) refl) (Contains-push arcs arc)

    seconds_of : (k : ℕ) → arc ≡ record { from = p; to = q; seconds = k } → arc.seconds ≡ k
    seconds_of k e = ap (λ (a : Arc). a.seconds) e

    go : (o : Option ℕ) → HasLeastArc arcs p q o → HasLeastArc (arcs ++ arc ∷ []) p q (Some (least_with o arc.seconds))
    go None has =
        record {
          attained = last;
          least = λ k h. elim (Contains-push_cases arcs arc (record { from = p; to = q; seconds = k }) h) [
            | inl g ↦ absurd (has k g)
            | inr e ↦ omega (arith, seconds_of k e)
          ];
        }
    go (Some m) has =
        record {
          attained = elim (cases_lt m arc.seconds) [
            | inl l ↦
                subst (λ k. Contains (arcs ++ arc ∷ []) (record { from = p; to = q; seconds = k })) (omega arith)
                (Contains-append_left arcs (arc ∷ []) (record { from = p; to = q; seconds = m }) has.attained)
            | inr l ↦ subst (λ k. Contains (arcs ++ arc ∷ []) (record { from = p; to = q; seconds = k })) (omega arith) last
          ];
          least = λ k h. elim (Contains-push_cases arcs arc (record { from = p; to = q; seconds = k }) h) [
            | inl g ↦ omega (arith, has.least k g)
            | inr e ↦ omega (arith, seconds_of k e)
          ];
        }

-- the steps of a loop over the arcs
pub least_arc_more : (arcs : List Arc) (i : ℕ) (d : Arc) (p q : NodeNo) (o o' : Option ℕ) → i < length arcs
    → (get_or arcs i d).from.0 ≡ p.0 → (get_or arcs i d).to.0 ≡ q.0 → o' ≡ Some (least_with o (get_or arcs i d).seconds)
    → HasLeastArc (take i arcs) p q o → HasLeastArc (take (i + 1) arcs) p q o'
least_arc_more arcs i d p q o o' within from_is to_is is has =
    rw (take_more arcs i d within, is) (HasLeastArc-same (take i arcs) p q o (get_or arcs i d) from_is to_is has)

pub least_arc_pass : (arcs : List Arc) (i : ℕ) (d : Arc) (p q : NodeNo) (o o' : Option ℕ) → i < length arcs
    → (((get_or arcs i d).from.0 ≡ p.0) × ((get_or arcs i d).to.0 ≡ q.0) → ⊥) → o' ≡ o
    → HasLeastArc (take i arcs) p q o → HasLeastArc (take (i + 1) arcs) p q o'
least_arc_pass arcs i d p q o o' within other is has =
    rw (take_more arcs i d within, is) (HasLeastArc-other (take i arcs) p q o (get_or arcs i d) other has)

pub least_arc_all : (arcs : List Arc) (i : ℕ) (p q : NodeNo) (o : Option ℕ) → length arcs ≤ i
    → HasLeastArc (take i arcs) p q o → HasLeastArc arcs p q o
least_arc_all arcs i p q o past has = subst (λ us. HasLeastArc us p q o) (take_all i arcs past) has
