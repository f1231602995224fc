-- The least sum of arcs is the distance.
use Rattle.std.proofs.Common.{◌≡◌, ℕ, ◌+◌, ◌≤◌, ◌↔◌, List, refl, sym, subst, arith, Option, Some, None}
use Rattle.std.specs.Prelude.{Contains}
use Rattle.move_model.specs.declared.network.NodeNo.{NodeNo}
use Rattle.move_model.specs.declared.network.Arc.{Arc}
use Rattle.move_model.specs.Streets.{Streets, IsVertex, IsStreets, IsLeastArc, IsWalk, IsDistance, HasDistance}
use Rattle.move_model.specs.Streets.IsWalk.{stays, goes}
use Rattle.walk_laws.specs.Sums.{IsSum, IsStreet, View, IsUp, IsDown, IsRest, Leads, Mixed, UpDown, IsLeast, HasLeast, Keeps, IsComplete, IsShort, longest}
use Rattle.walk_laws.specs.Sums.IsSum.{none, more}
use Rattle.walk_laws.proofs.SumLemmas.{IsSum-append, IsSum-join, IsWithin}
use Rattle.pareto_laws.proofs.Optionals.{AtMost_some}
use Rattle.pareto_laws.proofs.LeastArcs.{least_arc, least_arc_reached, least_arc_of}
use Rattle.pareto_laws.proofs.Walks.{arc_ends}
use Rattle.pareto_laws.proofs.Distances.{distance_within}

pub sum_from_walk : {graph : Streets} {a b : NodeNo} {vs : List NodeNo} {m : ℕ} → IsWalk graph a vs b m → IsSum (IsStreet graph) a.0 b.0 m
sum_from_walk (stays v) = none
sum_from_walk {graph} (goes {a = a} {v = v} arc rest) = more arc.attained (sum_from_walk rest)

pub record HasWalk (graph : Streets) (a b : NodeNo) (seconds : ℕ) : Type 0 where
  pub vertices : List NodeNo
  pub l : ℕ
  pub walk : IsWalk graph a vertices b l
  pub within : l ≤ seconds

module _ (graph : Streets) (ok : IsStreets graph) where
  record HasLeastWithin (p q : NodeNo) (seconds : ℕ) : Type 0 where
    l : ℕ
    arc : IsLeastArc graph.arcs p q l
    within : l ≤ seconds

  least_of : (p q : NodeNo) (l : ℕ) → IsStreet graph p.0 q.0 l → HasLeastWithin p q l
  least_of p q l arc =
      let o = AtMost_some (least_arc graph.arcs p q) l (least_arc_reached graph.arcs p q l arc) in
      record { l = o.0; arc = least_arc_of graph.arcs p q o.0 o.1; within = o.2 }

  pub walk_from_sum : {a b m : ℕ} → IsVertex graph (record { 0 = a }) → IsSum (IsStreet graph) a b m → HasWalk graph (record { 0 = a }) (record { 0 = b }) m
  walk_from_sum {a} {b} {m} vertex none =
      record { vertices = _; l = 0; walk = stays vertex; within = omega arith }
  walk_from_sum {a} {b} {m} vertex (more {v = v} {l = l} {m = n} first rest) =
      let arc = least_of (record { 0 = a }) (record { 0 = v }) l first in
      let ends = arc_ends graph ok (record { 0 = a }) (record { 0 = v }) arc.l arc.arc in
      let r = walk_from_sum ends.1 rest in
      record { vertices = _; l = arc.l + r.l; walk = goes arc.arc r.walk; within = omega (arith, arc.within, r.within) }

  module _ (short : IsShort graph) (w : View) (keeps : Keeps graph w) where
    real_up : {a b m : ℕ} → IsSum (IsUp w) a b m → IsSum (IsStreet graph) a b m
    real_up s = IsSum-join (λ p q l arc. keeps.real_out p q l arc.stands) s

    real_rest : {a b m : ℕ} → IsSum (IsRest w) a b m → IsSum (IsStreet graph) a b m
    real_rest s = IsSum-join (λ p q l arc. keeps.real_out p q l arc.stands) s

    real_down : {a b m : ℕ} → IsSum (IsDown w) a b m → IsSum (IsStreet graph) a b m
    real_down s = IsSum-join (λ p q l arc. keeps.real_into p q l arc.stands) s

    real_mixed : {a b m : ℕ} → Mixed w a b m → IsSum (IsStreet graph) a b m
    real_mixed {a} {b} {m} s =
        subst (λ (k : ℕ). IsSum (IsStreet graph) a b k) s.all
        (IsSum-append (IsSum-append (real_up s.up) (real_rest s.over)) (real_down s.down))

    real_up_down : {a b m : ℕ} → UpDown w a b m → IsSum (IsStreet graph) a b m
    real_up_down {a} {b} {m} s =
        subst (λ (k : ℕ). IsSum (IsStreet graph) a b k) s.all (IsSum-append (real_up s.up) (real_down s.down))

    -- from a list of streets to one that is no longer, and not too long
    pub shorter : {a b m : ℕ} → IsVertex graph (record { 0 = a }) → IsSum (IsStreet graph) a b m → (k : ℕ) × IsSum (IsStreet graph) a b k × (k ≤ m) × (k ≤ longest)
    shorter {a} {b} {m} vertex sum =
        let walk = walk_from_sum vertex sum in
        let d = distance_within graph ok walk.walk in
        (d.0, sum_from_walk d.1.attained.1, omega (arith, d.2, walk.within), short.distances _ _ d.0 d.1)

    -- numbers of two kinds have one least where each of the one kind has one of the other kind that is no greater
    pub same_least : (a b : NodeNo) (P : ℕ → Type 0) → IsVertex graph a
        → ((m : ℕ) → P m → IsSum (IsStreet graph) a.0 b.0 m)
        → ((m : ℕ) → IsSum (IsStreet graph) a.0 b.0 m → (k : ℕ) × P k × (k ≤ m))
        → (r : Option ℕ) → HasLeast P r ↔ HasDistance graph a b r
    same_least a b P vertex real whole None = (
      (λ no. λ vs m walk. let p = whole m (sum_from_walk walk) in no p.0 p.1),
      (λ no. λ m p. let walk = walk_from_sum {a = a.0} {b = b.0} vertex (real m p) in no walk.vertices walk.l walk.walk),
    )
    same_least a b P vertex real whole (Some m) = (
      (λ is.
          let walk = walk_from_sum {a = a.0} {b = b.0} vertex (real m is.attained) in
          let least : (vs : List NodeNo) (k : ℕ) → IsWalk graph a vs b k → m ≤ k =
          λ vs k other. let p = whole k (sum_from_walk other) in omega (arith, is.least p.0 p.1, p.2) in
          record {
            attained = (walk.vertices, subst (λ (k : ℕ). IsWalk graph a walk.vertices b k) (omega (arith, walk.within, least walk.vertices walk.l walk.walk)) walk.walk);
            least = least;
          }),
      (λ is.
          let p = whole m (sum_from_walk is.attained.1) in
          let least : (k : ℕ) → P k → m ≤ k =
          λ k other. let walk = walk_from_sum {a = a.0} {b = b.0} vertex (real k other) in omega (arith, walk.within, is.least walk.vertices walk.l walk.walk) in
          record { attained = subst P (omega (arith, p.2, least p.0 p.1)) p.1; least = least }),
    )

    pub mixed_distance : (a b : NodeNo) (r : Option ℕ) → IsVertex graph a → HasLeast (Mixed w a.0 b.0) r ↔ HasDistance graph a b r
    mixed_distance a b r vertex =
        same_least a b (Mixed w a.0 b.0) vertex (λ m s. real_mixed s)
        (λ m long.
        let walk = shorter {a = a.0} {b = b.0} vertex long in
        let p = keeps.whole a.0 b.0 walk.0 walk.3 walk.1 in
        let whole : Mixed w a.0 b.0 (p.l + p.k + p.n) =
        record { top = p.top; bend = p.bend; l = p.l; k = p.k; n = p.n; up = p.up; over = p.over; down = p.down; all = refl } in
        (p.l + p.k + p.n, whole, omega (arith, p.within, walk.2)))
        r

    -- where nothing is left, there is nothing between up and down
    pub only_up_down : IsComplete w → {g h k : ℕ} → IsSum (IsRest w) g h k → g ≡ h
    only_up_down complete none = refl
    only_up_down complete (more {a = a} {v = v} {l = l} arc rest) = absurd (complete.no_rest a v l arc)

    pub up_down_distance : (a b : NodeNo) (r : Option ℕ) → IsComplete w → IsVertex graph a → HasLeast (UpDown w a.0 b.0) r ↔ HasDistance graph a b r
    up_down_distance a b r complete vertex =
        same_least a b (UpDown w a.0 b.0) vertex (λ m s. real_up_down s)
        (λ m long.
        let walk = shorter {a = a.0} {b = b.0} vertex long in
        let p = keeps.whole a.0 b.0 walk.0 walk.3 walk.1 in
        let e : p.top ≡ p.bend = only_up_down complete p.over in
        let whole : UpDown w a.0 b.0 (p.l + p.n) =
        record { top = p.top; l = p.l; n = p.n; up = p.up; down = subst (λ (x : ℕ). IsSum (IsDown w) x b.0 p.n) (sym e) p.down; all = refl } in
        (p.l + p.n, whole, omega (arith, p.within, walk.2)))
        r
