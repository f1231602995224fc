-- A distance is below the number of vertices times the greatest arc: a least walk need not come to a vertex twice.
use Rattle.std.proofs.Common.{◌≡◌, ℕ, suc, ◌+◌, ◌*◌, ◌<◌, ◌≤◌, true, false, eqb, List, [], ◌∷◌, length, refl, sym, ap, subst, arith, mul-le-mul_right, inl, inr}
use Rattle.std.specs.Prelude.{All}
use Rattle.std.specs.List.{IsDistinct, AllByRecursion, list_any}
use Rattle.std.proofs.lemmas.Bool.{cases_Bool, or_cases, or_parts, eqb-true, false_from_ne_true}
use Rattle.std.proofs.lemmas.Map.Keys.{IsDistinct-cons, IsDistinct-tail}
use Rattle.std.proofs.lemmas.Map.Steps.{length-le_from_distinct_below}
use Rattle.std.proofs.lemmas.List.Elements.{All-contains}
use Rattle.move_model.specs.declared.network.NodeNo.{NodeNo}
use Rattle.move_model.specs.declared.network.Arc.{Arc}
use Rattle.move_model.specs.Streets.{Streets, IsStreets, IsWalk, IsDistance}
use Rattle.move_model.specs.Streets.IsWalk.{stays, goes}
use Rattle.pareto_laws.proofs.LeastArcs.{node_eq}
use Rattle.pareto_laws.proofs.Walks.{arc_ends}

abbrev numbers : List NodeNo → List ℕ
numbers [] = []
numbers (v ∷ vs) = v.0 ∷ numbers vs

length-numbers : (vs : List NodeNo) → length (numbers vs) ≡ length vs
length-numbers [] = refl
length-numbers (v ∷ vs) = ap suc (length-numbers vs)

-- a walk that comes to no vertex twice, and takes no longer than m
record SimpleWalk (g : Streets) (a b : NodeNo) (m : ℕ) : Type 0 where
  vertices : List NodeNo
  seconds : ℕ
  is_walk : IsWalk g a vertices b seconds
  no_longer : seconds ≤ m
  distinct : IsDistinct eqb (numbers vertices)

-- what is left of such a walk from a vertex on it
rest_from : {g : Streets} {v b : NodeNo} {vs : List NodeNo} {m : ℕ} → IsWalk g v vs b m → (a : NodeNo)
    → list_any (eqb a.0) (numbers vs) ≡ true
    → IsDistinct eqb (numbers vs) → SimpleWalk g a b m
rest_from {g} {v} {b} {vs} {m} (stays is) a on d =
    elim (or_cases (eqb a.0 v.0) false on) [
      | inl e ↦ subst (λ x. SimpleWalk g x b m) (sym (node_eq a v (eqb-true a.0 v.0 e))) (record { vertices = vs; seconds = m; is_walk = stays is; no_longer = omega arith; distinct = d })
      | inr e ↦ absurd (cc e)
    ]
rest_from {g} {v} {b} {vs} {m} (goes {vs = ws} {m = k} arc rest) a on d =
    elim (or_cases (eqb a.0 v.0) (list_any (eqb a.0) (numbers ws)) on) [
      | inl e ↦ subst (λ x. SimpleWalk g x b m) (sym (node_eq a v (eqb-true a.0 v.0 e))) (record { vertices = vs; seconds = m; is_walk = goes arc rest; no_longer = omega arith; distinct = d })
      | inr e ↦
          let s = rest_from rest a e (IsDistinct-tail eqb v.0 (numbers ws) d) in
          record { vertices = s.vertices; seconds = s.seconds; is_walk = s.is_walk; no_longer = omega (arith, s.no_longer); distinct = s.distinct }
    ]

none_equal : (q : ℕ) (xs : List ℕ) → list_any (eqb q) xs ≡ false → AllByRecursion (λ y. eqb q y ≡ false) xs
none_equal q [] e = tt
none_equal q (x ∷ xs) e = let h = or_parts (eqb q x) (list_any (eqb q) xs) e in (h.0, none_equal q xs h.1)

IsDistinct-none : IsDistinct eqb []
unfolding IsDistinct
IsDistinct-none = tt

simple_walk : {g : Streets} {a b : NodeNo} {vs : List NodeNo} {m : ℕ} → IsWalk g a vs b m → SimpleWalk g a b m
simple_walk {a = a} {vs = vs} (stays is) =
    record { vertices = vs; seconds = 0; is_walk = stays is; no_longer = omega arith; distinct = IsDistinct-cons eqb a.0 [] tt IsDistinct-none }
simple_walk {g} {a} {b} {vs} {m} (goes {l = l} {m = k} arc rest) =
    let r = simple_walk rest in
    elim (cases_Bool (list_any (eqb a.0) (numbers r.vertices))) [
      | inl on ↦
          let s = rest_from r.is_walk a on r.distinct in
          record { vertices = s.vertices; seconds = s.seconds; is_walk = s.is_walk; no_longer = omega (arith, s.no_longer, r.no_longer); distinct = s.distinct }
      | inr off ↦
          record {
            vertices = a ∷ r.vertices;
            seconds = l + r.seconds;
            is_walk = goes arc r.is_walk;
            no_longer = omega (arith, r.no_longer);
            distinct = IsDistinct-cons eqb a.0 (numbers r.vertices) (none_equal a.0 (numbers r.vertices) off) r.distinct;
          }
    ]

module _ (g : Streets) (ok : IsStreets g) (w : ℕ) (small : All (λ (arc : Arc). arc.seconds ≤ w) g.arcs) where
  on_walk : {a b : NodeNo} {vs : List NodeNo} {m : ℕ} → IsWalk g a vs b m → (q : ℕ) → list_any (eqb q) (numbers vs) ≡ true
      → (1 ≤ q) × (q ≤ g.nodes)
  on_walk {a} (stays is) q on = elim (or_cases (eqb q a.0) false on) [
    | inl e ↦ let h = eqb-true q a.0 e in (omega (arith, h, is.from_one), omega (arith, h, is.to_nodes))
    | inr e ↦ absurd (cc e)
  ]
  on_walk {a} (goes {v = v} {vs = vs} {l = l} arc rest) q on = elim (or_cases (eqb q a.0) (list_any (eqb q) (numbers vs)) on) [
    | inl e ↦
        let h = eqb-true q a.0 e in
        let is = (arc_ends g ok a v l arc).0 in
        (omega (arith, h, is.from_one), omega (arith, h, is.to_nodes))
    | inr e ↦ on_walk rest q e
  ]

  walk_seconds_bound : {a b : NodeNo} {vs : List NodeNo} {m : ℕ} → IsWalk g a vs b m → m + w ≤ length vs * w
  walk_seconds_bound (stays is) = omega arith
  walk_seconds_bound (goes {a = a} {v = v} {vs = vs} {l = l} {m = m} arc rest) =
      let one : l ≤ w = All-contains (λ (e : Arc). e.seconds ≤ w) g.arcs (record { from = a; to = v; seconds = l }) small arc.attained in
      omega (arith, one, walk_seconds_bound rest)

  few_vertices : {a b : NodeNo} {vs : List NodeNo} {m : ℕ} → IsWalk g a vs b m → IsDistinct eqb (numbers vs) → length vs ≤ g.nodes
  few_vertices {vs = vs} is d =
      let apart : list_any (eqb 0) (numbers vs) ≡ false = false_from_ne_true _ (λ on. omega (arith, (on_walk is 0 on).0)) in
      let all = length-le_from_distinct_below (0 ∷ numbers vs) (suc g.nodes) (IsDistinct-cons eqb 0 (numbers vs) (none_equal 0 (numbers vs) apart) d)
      (λ q on. elim (or_cases (eqb q 0) (list_any (eqb q) (numbers vs)) on) [
        | inl e ↦ omega (arith, eqb-true q 0 e)
        | inr e ↦ omega (arith, (on_walk is q e).1)
      ]) in
      omega (arith, all, length-numbers vs)

  pub distance_bound_lem : (a b : NodeNo) (m : ℕ) → IsDistance g a b m → m + w ≤ g.nodes * w
  distance_bound_lem a b m is =
      let s = simple_walk is.attained.1 in
      let few = mul-le-mul_right w (few_vertices s.is_walk s.distinct) in
      omega (arith, is.least s.vertices s.seconds s.is_walk, walk_seconds_bound s.is_walk, few)

pub distance_within_limits : (g : Streets) → IsStreets g → g.nodes ≤ 2000000 → All (λ (arc : Arc). arc.seconds ≤ 1000000) g.arcs
    → (a b : NodeNo) (m : ℕ) → IsDistance g a b m → m < 2000000000000
distance_within_limits g ok few small a b m is = omega (arith, distance_bound_lem g ok 1000000 small a b m is)
