-- Each two vertices have a distance, or there is no walk: by a table over the vertices that a walk may pass.
use Rattle.std.proofs.Common.{◌≡◌, ℕ, zero, suc, ◌+◌, ◌<◌, ◌≤◌, cond, ◌&&◌, eqb, leb, List, [], ◌∷◌, refl, sym, subst, inl, inr, arith, Option, Some, None}
use Rattle.std.proofs.lemmas.Bool.{cases_lt, and_parts, eqb-true, eq-eqb, leb-true, le-leb}
use Rattle.std.proofs.lemmas.Option.{cond_some}
use Rattle.move_model.specs.declared.network.NodeNo.{NodeNo}
use Rattle.move_model.specs.Streets.{Streets, IsVertex, IsStreets, IsLeastArc, IsWalk, IsDistance, HasDistance}
use Rattle.move_model.specs.Streets.IsWalk.{stays, goes}
use Rattle.pareto_laws.proofs.Optionals.{AtMost, lesser, total, AtMost-more, lesser_left, lesser_right, lesser_cases, total_of, total_parts, AtMost_some}
use Rattle.pareto_laws.proofs.LeastArcs.{node_eq, least_arc, least_arc_reached, least_arc_of}
use Rattle.pareto_laws.proofs.Walks.{IsWalk-append, arc_ends, IsWalk-begins}

stay : Streets → NodeNo → NodeNo → Option ℕ
stay graph a b = cond (eqb a.0 b.0 && (leb 1 a.0 && leb a.0 graph.nodes)) (Some 0) None

base : Streets → NodeNo → NodeNo → Option ℕ
base graph a b = lesser (stay graph a b) (least_arc graph.arcs a b)

-- by way of one more vertex
abbrev one_more : ℕ → (NodeNo → NodeNo → Option ℕ) → NodeNo → NodeNo → Option ℕ
one_more k f a b = lesser (f a b) (total (f a (record { 0 = k })) (f (record { 0 = k }) b))

table : Streets → ℕ → NodeNo → NodeNo → Option ℕ
table graph zero = base graph
table graph (suc k) = one_more k (table graph k)

-- the distance from a to b, if there is a walk
pub distance_of : Streets → NodeNo → NodeNo → Option ℕ
distance_of graph = table graph (suc graph.nodes)

stay_is : (graph : Streets) (a b : NodeNo) (m : ℕ) → AtMost (stay graph a b) m → (a ≡ b) × IsVertex graph a
unfolding stay
stay_is graph a b m h =
    let o = AtMost_some _ m h in
    let test = cond_some (eqb a.0 b.0 && (leb 1 a.0 && leb a.0 graph.nodes)) 0 o.0 o.1 in
    let same = and_parts (eqb a.0 b.0) (leb 1 a.0 && leb a.0 graph.nodes) test.0 in
    let within = and_parts (leb 1 a.0) (leb a.0 graph.nodes) same.1 in
    (node_eq a b (eqb-true _ _ same.0), record { from_one = leb-true _ _ within.0; to_nodes = leb-true _ _ within.1 })

stay_reached : (graph : Streets) (a : NodeNo) → IsVertex graph a → AtMost (stay graph a a) 0
unfolding stay
stay_reached graph a v = rw (eq-eqb a.0 a.0 refl, le-leb 1 a.0 v.from_one, le-leb a.0 graph.nodes v.to_nodes) (omega arith)

module _ (graph : Streets) (ok : IsStreets graph) where
  -- a table of seconds, where a walk may pass each vertex below `bound`
  record IsTable (bound : ℕ) (f : NodeNo → NodeNo → Option ℕ) : Type 0 where
    walked : (a b : NodeNo) (m : ℕ) → AtMost (f a b) m → (vs : List NodeNo) × (l : ℕ) × IsWalk graph a vs b l × (l ≤ m)
    at_place : (a : NodeNo) → IsVertex graph a → AtMost (f a a) 0
    along : (a b : NodeNo) (m : ℕ) → IsLeastArc graph.arcs a b m → AtMost (f a b) m
    by_way : (a v b : NodeNo) (l m : ℕ) → v.0 < bound → AtMost (f a v) l → AtMost (f v b) m → AtMost (f a b) (l + m)

  base_is : IsTable zero (base graph)
  unfolding base
  base_is =
      record {
        walked = λ a b m h. elim (lesser_cases (stay graph a b) (least_arc graph.arcs a b) m h) [
          | inl g ↦
              let s = stay_is graph a b m g in
              (a ∷ [], 0, subst (λ v. IsWalk graph a (a ∷ []) v 0) s.0 (stays s.1), omega arith)
          | inr g ↦
              let o = AtMost_some (least_arc graph.arcs a b) m g in
              let arc = least_arc_of graph.arcs a b o.0 o.1 in
              (a ∷ b ∷ [], o.0 + 0, goes arc (stays (arc_ends graph ok a b o.0 arc).1), omega (arith, o.2))
        ];
        at_place = λ a v. lesser_left (stay graph a a) (least_arc graph.arcs a a) 0 (stay_reached graph a v);
        along = λ a b m arc. lesser_right (stay graph a b) (least_arc graph.arcs a b) m (least_arc_reached graph.arcs a b m arc.attained);
        by_way = λ a v b l m h f g. absurd (omega arith);
      }

  module _ (k : ℕ) (f : NodeNo → NodeNo → Option ℕ) (is : IsTable k f) where
    -- ends at the new vertex
    to_new : (a : NodeNo) (m : ℕ) → AtMost (one_more k f a (record { 0 = k })) m → AtMost (f a (record { 0 = k })) m
    to_new a m h = elim (lesser_cases (f a (record { 0 = k })) (total (f a (record { 0 = k })) (f (record { 0 = k }) (record { 0 = k }))) m h) [
      | inl g ↦ g
      | inr g ↦
          let t = total_parts (f a (record { 0 = k })) (f (record { 0 = k }) (record { 0 = k })) m g in
          AtMost-more _ t.left m t.left_is (omega (arith, t.within))
    ]

    from_new : (b : NodeNo) (m : ℕ) → AtMost (one_more k f (record { 0 = k }) b) m → AtMost (f (record { 0 = k }) b) m
    from_new b m h = elim (lesser_cases (f (record { 0 = k }) b) (total (f (record { 0 = k }) (record { 0 = k })) (f (record { 0 = k }) b)) m h) [
      | inl g ↦ g
      | inr g ↦
          let t = total_parts (f (record { 0 = k }) (record { 0 = k })) (f (record { 0 = k }) b) m g in
          AtMost-more _ t.right m t.right_is (omega (arith, t.within))
    ]

    -- by way of the new vertex
    by_new : (a b : NodeNo) (l r m : ℕ) → AtMost (f a (record { 0 = k })) l → AtMost (f (record { 0 = k }) b) r → l + r ≤ m
        → AtMost (one_more k f a b) m
    by_new a b l r m h g e =
        lesser_right (f a b) (total (f a (record { 0 = k })) (f (record { 0 = k }) b)) m
        (AtMost-more _ (l + r) m (total_of (f a (record { 0 = k })) (f (record { 0 = k }) b) l r h g) e)

    by_old : (a v b : NodeNo) (l m : ℕ) → v.0 < k → AtMost (one_more k f a v) l → AtMost (one_more k f v b) m
        → AtMost (one_more k f a b) (l + m)
    by_old a v b l m old h g =
        elim (lesser_cases (f a v) (total (f a (record { 0 = k })) (f (record { 0 = k }) v)) l h) [
          | inl h1 ↦ elim (lesser_cases (f v b) (total (f v (record { 0 = k })) (f (record { 0 = k }) b)) m g) [
            | inl g1 ↦ lesser_left (f a b) _ (l + m) (is.by_way a v b l m old h1 g1)
            | inr g1 ↦
                let t = total_parts (f v (record { 0 = k })) (f (record { 0 = k }) b) m g1 in
                by_new a b (l + t.left) t.right (l + m) (is.by_way a v (record { 0 = k }) l t.left old h1 t.left_is) t.right_is (omega (arith, t.within))
          ]
          | inr h1 ↦
              let s = total_parts (f a (record { 0 = k })) (f (record { 0 = k }) v) l h1 in
              elim (lesser_cases (f v b) (total (f v (record { 0 = k })) (f (record { 0 = k }) b)) m g) [
                | inl g1 ↦
                    by_new a b s.left (s.right + m) (l + m) s.left_is (is.by_way (record { 0 = k }) v b s.right m old s.right_is g1) (omega (arith, s.within))
                | inr g1 ↦
                    let t = total_parts (f v (record { 0 = k })) (f (record { 0 = k }) b) m g1 in
                    by_new a b s.left t.right (l + m) s.left_is t.right_is (omega (arith, s.within, t.within))
              ]
        ]

    one_more_is : IsTable (suc k) (one_more k f)
    one_more_is =
        record {
          walked = λ a b m h. elim (lesser_cases (f a b) (total (f a (record { 0 = k })) (f (record { 0 = k }) b)) m h) [
            | inl g ↦ is.walked a b m g
            | inr g ↦
                let t = total_parts (f a (record { 0 = k })) (f (record { 0 = k }) b) m g in
                let there = is.walked a (record { 0 = k }) t.left t.left_is in
                let on = is.walked (record { 0 = k }) b t.right t.right_is in
                let whole = IsWalk-append there.2 on.2 in
                (whole.0, there.1 + on.1, whole.1, omega (arith, there.3, on.3, t.within))
          ];
          at_place = λ a v. lesser_left (f a a) _ 0 (is.at_place a v);
          along = λ a b m arc. lesser_left (f a b) _ m (is.along a b m arc);
          by_way = λ a v b l m h p q. elim (cases_lt v.0 k) [
            | inl old ↦ by_old a v b l m old p q
            | inr new ↦
                let e : v ≡ record { 0 = k } = node_eq v (record { 0 = k }) (omega arith) in
                by_new a b l m (l + m) (to_new a l (subst (λ x. AtMost (one_more k f a x) l) e p))
                (from_new b m (subst (λ x. AtMost (one_more k f x b) m) e q)) (omega arith)
          ];
        }

  table_is : (k : ℕ) → IsTable k (table graph k)
  unfolding table
  table_is zero = base_is
  table_is (suc k) = one_more_is k (table graph k) (table_is k)

  -- the whole table is at most each walk
  below_walk : {a b : NodeNo} {vs : List NodeNo} {m : ℕ} → IsWalk graph a vs b m → AtMost (distance_of graph a b) m
  unfolding distance_of
  below_walk {a} (stays v) = (table_is (suc graph.nodes)).at_place a v
  below_walk {a} {b} (goes {v = v} {l = l} {m = m} arc rest) =
      let within = IsWalk-begins graph ok rest in
      (table_is (suc graph.nodes)).by_way a v b l m (omega (arith, within.to_nodes)) ((table_is (suc graph.nodes)).along a v l arc) (below_walk rest)

  distance_found : (a b : NodeNo) (m : ℕ) → distance_of graph a b ≡ Some m → IsDistance graph a b m
  unfolding distance_of
  distance_found a b m e =
      let w = (table_is (suc graph.nodes)).walked a b m (subst (λ o. AtMost o m) (sym e) (omega arith)) in
      let least : (vs : List NodeNo) (k : ℕ) → IsWalk graph a vs b k → m ≤ k = λ vs k h. subst (λ o. AtMost o k) e (below_walk h) in
      record {
        attained = (w.0, subst (λ k. IsWalk graph a w.0 b k) (omega (arith, w.3, least w.0 w.1 w.2)) w.2);
        least = least;
      }

  pub distance_is : (a b : NodeNo) → HasDistance graph a b (distance_of graph a b)
  distance_is a b = go (distance_of graph a b) refl
    where
      go : (o : Option ℕ) → distance_of graph a b ≡ o → HasDistance graph a b o
      go None e = λ vs m h. subst (λ o. AtMost o m) e (below_walk h)
      go (Some m) e = distance_found a b m e

  -- a walk is no shorter than the distance
  pub distance_within : {a b : NodeNo} {vs : List NodeNo} {m : ℕ} → IsWalk graph a vs b m → (l : ℕ) × IsDistance graph a b l × (l ≤ m)
  distance_within {a} {b} {vs} {m} walk =
      let o = AtMost_some (distance_of graph a b) m (below_walk walk) in
      (o.0, distance_found a b o.0 o.1, o.2)

pub distance_same : {graph : Streets} {a b : NodeNo} {l m : ℕ} → IsDistance graph a b l → IsDistance graph a b m → l ≡ m
distance_same {graph} {a} {b} {l} {m} first second =
    omega (arith, first.least second.attained.0 m second.attained.1, second.least first.attained.0 l first.attained.1)

pub distance_self : (graph : Streets) {v : NodeNo} → IsVertex graph v → IsDistance graph v v 0
distance_self graph {v} is = record { attained = (v ∷ [], stays is); least = λ vs m h. omega arith }
