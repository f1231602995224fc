-- Walks by arcs: the least arc between two vertices, and walks that go on.
use Rattle.std.proofs.Common.{◌≡◌, ℕ, zero, suc, ◌+◌, ◌<◌, ◌≤◌, ◌⊎◌, List, [], ◌∷◌, ◌++◌, ap, subst, inl, inr, arith}
use Rattle.std.specs.Prelude.{Contains}
use Rattle.std.proofs.lemmas.Bool.{cases_lt, cases_eq}
use Rattle.std.proofs.lemmas.List.Elements.{All-contains}
use Rattle.move_model.specs.declared.network.NodeNo.{NodeNo}
use Rattle.move_model.specs.declared.network.Arc.{Arc}
use Rattle.move_model.specs.Streets.{Streets, IsVertex, IsStreets, IsLeastArc, IsWalk}
use Rattle.move_model.specs.Streets.IsWalk.{stays, goes}
use Rattle.plain_search.proofs.Rows.{node_eq}

-- the least arc

abbrev HasArc : List Arc → NodeNo → NodeNo → ℕ → Type 0
HasArc arcs p q m = Contains arcs (record { from = p; to = q; seconds = m })

arc_here : (arc : Arc) (arcs : List Arc) (p q : NodeNo) → arc.from.0 ≡ p.0 → arc.to.0 ≡ q.0 → HasArc (arc ∷ arcs) p q arc.seconds
arc_here arc arcs p q from_is to_is =
    (0, omega arith, λ i. record { from = node_eq arc.from p from_is i; to = node_eq arc.to q to_is i; seconds = arc.seconds })

arc_later : (arc : Arc) (arcs : List Arc) (p q : NodeNo) (m : ℕ) → HasArc arcs p q m → HasArc (arc ∷ arcs) p q m
arc_later arc arcs p q m (k, within, is) = (suc k, omega (arith, within), is)

arc_cases : (arc : Arc) (arcs : List Arc) (p q : NodeNo) (m : ℕ) → HasArc (arc ∷ arcs) p q m
    → (arc ≡ record { from = p; to = q; seconds = m }) ⊎ HasArc arcs p q m
arc_cases arc arcs p q m (zero, within, is) = inl is
arc_cases arc arcs p q m (suc k, within, is) = inr (k, omega (arith, within), is)

-- whether some arc takes fewer seconds
abbrev HasLesser : List Arc → NodeNo → NodeNo → ℕ → Type 0
HasLesser arcs p q m = (k : ℕ) × ((k < m) × HasArc arcs p q k)

abbrev NoLesser : List Arc → NodeNo → NodeNo → ℕ → Type 0
NoLesser arcs p q m = (k : ℕ) → HasArc arcs p q k → m ≤ k

lesser_or_not : (arcs : List Arc) (p q : NodeNo) (m : ℕ) → HasLesser arcs p q m ⊎ NoLesser arcs p q m
lesser_or_not [] p q m = inr (λ k has. absurd (omega (arith, has.1)))
lesser_or_not (arc ∷ arcs) p q m = more (lesser_or_not arcs p q m)
  where
    other : NoLesser arcs p q m → ((k : ℕ) → arc ≡ record { from = p; to = q; seconds = k } → m ≤ k) → NoLesser (arc ∷ arcs) p q m
    other none here k has = elim (arc_cases arc arcs p q k has) [ inl is ↦ here k is | inr later ↦ none k later ]

    more : HasLesser arcs p q m ⊎ NoLesser arcs p q m → HasLesser (arc ∷ arcs) p q m ⊎ NoLesser (arc ∷ arcs) p q m
    more (inl l) = inl (l.0, (l.1.0, arc_later arc arcs p q l.0 l.1.1))
    more (inr none) = elim (cases_eq arc.from.0 p.0) [
      | inr ne ↦ inr (other none (λ k is. absurd (ne (ap (λ (a : Arc). a.from.0) is))))
      | inl from_is ↦ elim (cases_eq arc.to.0 q.0) [
        | inr ne ↦ inr (other none (λ k is. absurd (ne (ap (λ (a : Arc). a.to.0) is))))
        | inl to_is ↦ elim (cases_lt arc.seconds m) [
          | inl l ↦ inl (arc.seconds, (l, arc_here arc arcs p q from_is to_is))
          | inr h ↦ inr (other none (λ k is. omega (arith, h, ap (λ (a : Arc). a.seconds) is)))
        ]
      ]
    ]

least_below : (arcs : List Arc) (p q : NodeNo) (bound m : ℕ) → m < bound → HasArc arcs p q m → (l : ℕ) × (IsLeastArc arcs p q l × (l ≤ m))
least_below arcs p q zero m within has = absurd (omega arith)
least_below arcs p q (suc bound) m within has = elim (lesser_or_not arcs p q m) [
  | inl l ↦
      let found = least_below arcs p q bound l.0 (omega (arith, l.1.0, within)) l.1.1 in
      (found.0, (found.1.0, omega (arith, found.1.1, l.1.0)))
  | inr none ↦ (m, (record { attained = has; least = none }, omega arith))
]

-- there is a least arc, where there is one
pub least_arc : (arcs : List Arc) (p q : NodeNo) (m : ℕ) → Contains arcs (record { from = p; to = q; seconds = m })
    → (l : ℕ) × (IsLeastArc arcs p q l × (l ≤ m))
least_arc arcs p q m has = least_below arcs p q (suc m) m (omega arith) has

-- walks

module _ (g : Streets) (ok : IsStreets g) where
  pub arc_ends : {p q : NodeNo} {m : ℕ} → Contains g.arcs (record { from = p; to = q; seconds = m }) → IsVertex g p × IsVertex g q
  arc_ends {p} {q} {m} has =
      All-contains (λ (arc : Arc). IsVertex g arc.from × IsVertex g arc.to) g.arcs (record { from = p; to = q; seconds = m }) ok.arcs_join has

  pub IsWalk-begins : {a b : NodeNo} {vs : List NodeNo} {m : ℕ} → IsWalk g a vs b m → IsVertex g a
  IsWalk-begins (stays is) = is
  IsWalk-begins (goes arc rest) = (arc_ends arc.attained).0

  pub IsWalk-ends : {a b : NodeNo} {vs : List NodeNo} {m : ℕ} → IsWalk g a vs b m → IsVertex g b
  IsWalk-ends (stays is) = is
  IsWalk-ends (goes arc rest) = IsWalk-ends rest

  pub IsWalk-push : {a p q : NodeNo} {vs : List NodeNo} {l m : ℕ} → IsWalk g a vs p m → IsLeastArc g.arcs p q l → IsWalk g a (vs ++ q ∷ []) q (m + l)
  IsWalk-push {a = a} {q = q} {l = l} (stays is) arc =
      subst (λ k. IsWalk g a (a ∷ q ∷ []) q k) (omega arith) (goes arc (stays (arc_ends arc.attained).1))
  IsWalk-push {q = q} {l = l} (goes {a = a} {vs = vs} {l = first} {m = m} arc rest) last =
      subst (λ k. IsWalk g a (a ∷ (vs ++ q ∷ [])) q k) (omega arith) (goes arc (IsWalk-push rest last))
