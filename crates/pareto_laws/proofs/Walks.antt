-- Walks: joined, where they begin and end, and their seconds by their vertices alone.
use Rattle.std.proofs.Common.{◌≡◌, ℕ, zero, suc, sub-one, drop-cons, ◌+◌, ◌-◌, ◌<◌, drop, get_or, List, [], ◌∷◌, length, refl, sym, subst, arith}
use Rattle.std.proofs.lemmas.List.{drop_all}
use Rattle.std.proofs.lemmas.List.Elements.{All-contains}
use Rattle.move_model.specs.declared.network.NodeNo.{NodeNo}
use Rattle.move_model.specs.declared.network.Arc.{Arc}
use Rattle.move_model.specs.Streets.{Streets, IsVertex, IsStreets, IsLeastArc, IsWalk}
use Rattle.move_model.specs.Streets.IsWalk.{stays, goes}
use Rattle.pareto_laws.proofs.LeastArcs.{node_eq}

pub IsWalk-append : {graph : Streets} {a b c : NodeNo} {us vs : List NodeNo} {l m : ℕ}
    → IsWalk graph a us b l → IsWalk graph b vs c m → (ws : List NodeNo) × IsWalk graph a ws c (l + m)
IsWalk-append {graph} {a} {b} {c} {us} {vs} {l} {m} (stays v) second = (vs, subst (λ k. IsWalk graph a vs c k) (omega arith) second)
IsWalk-append {graph} {a} {b} {c} {us} {vs} {l} {m} (goes {v = v} {l = l1} {m = m1} arc rest) second =
    let r = IsWalk-append rest second in
    (a ∷ r.0, subst (λ k. IsWalk graph a (a ∷ r.0) c k) (omega arith) (goes arc r.1))

module _ (graph : Streets) (ok : IsStreets graph) where
  pub arc_ends : (p q : NodeNo) (m : ℕ) → IsLeastArc graph.arcs p q m → IsVertex graph p × IsVertex graph q
  arc_ends p q m arc =
      All-contains (λ (e : Arc). IsVertex graph e.from × IsVertex graph e.to) graph.arcs
      (record { from = p; to = q; seconds = m }) ok.arcs_join arc.attained

  pub IsWalk-begins : {a b : NodeNo} {vs : List NodeNo} {m : ℕ} → IsWalk graph a vs b m → IsVertex graph a
  IsWalk-begins (stays v) = v
  IsWalk-begins (goes arc rest) = (arc_ends _ _ _ arc).0

  pub IsWalk-ends : {a b : NodeNo} {vs : List NodeNo} {m : ℕ} → IsWalk graph a vs b m → IsVertex graph b
  IsWalk-ends (stays v) = v
  IsWalk-ends (goes arc rest) = IsWalk-ends rest

-- what a walk begins and ends with, and its arcs
pub walk_first : {g : Streets} {a b : NodeNo} {vs : List NodeNo} {m : ℕ} (d : NodeNo) → IsWalk g a vs b m
    → (0 < length vs) × (get_or vs 0 d ≡ a)
walk_first d (stays is) = (omega arith, refl)
walk_first d (goes arc rest) = (omega arith, refl)

pub walk_last : {g : Streets} {a b : NodeNo} {vs : List NodeNo} {m : ℕ} (d : NodeNo) → IsWalk g a vs b m
    → (get_or vs (length vs - 1) d ≡ b) × IsVertex g b
walk_last d (stays is) = (refl, is)
walk_last {b = b} d (goes {a = a} {vs = vs} arc rest) =
    let h = walk_last d rest in
    let first = walk_first d rest in
    (last_later a vs b d first.0 h.0, h.1)
  where
    last_later : (a : NodeNo) (vs : List NodeNo) (b d : NodeNo) → 0 < length vs → get_or vs (length vs - 1) d ≡ b
        → get_or (a ∷ vs) (length (a ∷ vs) - 1) d ≡ b
    last_later a [] b d h e = absurd (omega arith)
    last_later a (v ∷ vs) b d h e = simp sub-one (simp sub-one at e)

pub walk_arc : {g : Streets} {a b : NodeNo} {vs : List NodeNo} {m : ℕ} (d : NodeNo) (k : ℕ) → IsWalk g a vs b m → k + 1 < length vs
    → (l : ℕ) × IsLeastArc g.arcs (get_or vs k d) (get_or vs (k + 1) d) l
walk_arc d k (stays is) h = absurd (omega (arith, h))
walk_arc {g} d zero (goes {a = a} {vs = vs} {l = l} arc rest) h = (l, rw ((walk_first d rest).1) arc)
walk_arc {g} d (suc k) (goes {a = a} {vs = vs} arc rest) h =
    let r = walk_arc d k rest (omega (arith, h)) in
    let e : suc (k + 1) ≡ suc k + 1 = omega arith in
    (r.0, subst (λ j. IsLeastArc g.arcs (get_or vs k d) (get_or (a ∷ vs) j d) r.0) e r.1)

pub walk_alone : (g : Streets) (vs : List NodeNo) (at : ℕ) (d b : NodeNo) → at ≡ length vs - 1 → 0 < length vs
    → (get_or vs at d).0 ≡ b.0 → IsVertex g b
    → IsWalk g (get_or vs at d) (drop at vs) b 0
walk_alone g vs at d b last some e is =
    let within : at < length vs = omega arith in
    let none : drop (suc at) vs ≡ [] = drop_all (suc at) vs (omega arith) in
    rw (drop-cons vs at d within, none, node_eq (get_or vs at d) b e) (stays is)

pub walk_more : (g : Streets) (vs : List NodeNo) (at : ℕ) (d b : NodeNo) (sum l : ℕ) → 0 < at → at < length vs
    → IsLeastArc g.arcs (get_or vs (at - 1) d) (get_or vs at d) l → IsWalk g (get_or vs at d) (drop at vs) b sum
    → IsWalk g (get_or vs (at - 1) d) (drop (at - 1) vs) b (sum + l)
walk_more g vs zero d b sum l some within arc walk = absurd (omega arith)
walk_more g vs (suc at) d b sum l some within arc walk =
    let e : suc at - 1 ≡ at = omega arith in
    let back : at < length vs = omega arith in
    subst
    (λ k. IsLeastArc g.arcs (get_or vs k d) (get_or vs (suc at) d) l → IsWalk g (get_or vs k d) (drop k vs) b (sum + l))
    (sym e)
    (λ near. rw (drop-cons vs at d back) (subst (λ k. IsWalk g (get_or vs at d) (get_or vs at d ∷ drop (suc at) vs) b k) (omega arith) (goes near walk)))
    arc

-- the seconds of a walk, by its vertices alone
SumsTo : Streets → List NodeNo → ℕ → Type 0
SumsTo g [] m = ⊥
SumsTo g (v ∷ []) m = m ≡ 0
SumsTo g (v ∷ w ∷ vs) m = (l : ℕ) × ((k : ℕ) × (IsLeastArc g.arcs v w l × (SumsTo g (w ∷ vs) k × (m ≡ l + k))))

sum_of_walk : {g : Streets} {a b : NodeNo} {vs : List NodeNo} {m : ℕ} → IsWalk g a vs b m → SumsTo g vs m
unfolding SumsTo
sum_of_walk (stays is) = refl
sum_of_walk {g} (goes {a = a} {v = v} {vs = vs} {l = l} {m = m} arc rest) =
    longer vs (walk_first (record { 0 = 0 }) rest).0 (walk_first (record { 0 = 0 }) rest).1 (sum_of_walk rest)
  where
    longer : (vs : List NodeNo) → 0 < length vs → get_or vs 0 (record { 0 = 0 }) ≡ v → SumsTo g vs m → SumsTo g (a ∷ vs) (l + m)
    longer [] h e s = absurd (omega arith)
    longer (w ∷ ws) h e s = (l, (m, (subst (λ x. IsLeastArc g.arcs a x l) (sym e) arc, (s, refl))))

sum_same : (g : Streets) (vs : List NodeNo) (l m : ℕ) → SumsTo g vs l → SumsTo g vs m → l ≡ m
unfolding SumsTo
sum_same g [] l m s t = absurd s
sum_same g (v ∷ []) l m s t = omega arith
sum_same g (v ∷ w ∷ vs) l m (l1, (k1, (arc1, (s1, e1)))) (l2, (k2, (arc2, (s2, e2)))) =
    omega (arith, arc1.least l2 arc2.attained, arc2.least l1 arc1.attained, sum_same g (w ∷ vs) k1 k2 s1 s2, e1, e2)

pub walk_same : {g : Streets} {a b c : NodeNo} {vs : List NodeNo} {l m : ℕ} → IsWalk g a vs b l → IsWalk g a vs c m → l ≡ m
walk_same {g} {vs = vs} {l = l} {m = m} first second = sum_same g vs l m (sum_of_walk first) (sum_of_walk second)
