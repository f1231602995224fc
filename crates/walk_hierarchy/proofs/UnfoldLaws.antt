-- Arcs that are unfolded, and the walks that they give.
use Rattle.std.proofs.Common.{◌≡◌, ◌≢◌, ◌∙◌, ℕ, zero, suc, ◌+◌, ◌-◌, ◌*◌, ◌<◌, ◌≤◌, Bool, true, false, cond, List, [], ◌∷◌, ◌++◌, length, slice_index_or, Option, Some, refl, sym, ap, subst, inl, inr, arith}
use Rattle.std.specs.Prelude.{All, Contains, ◌==◌, if◌then◌else◌}
use Rattle.std.specs.List.{AllAdjacentBelow, sum_by}
use Rattle.std.proofs.lemmas.Bool.{cases_eq, cases_lt}
use Rattle.std.proofs.lemmas.Bool.Decides.{nat_tests}
use Rattle.std.proofs.lemmas.List.{get_or_default, get_or_append_left, length_push}
use Rattle.std.proofs.lemmas.List.Sums.{sum_by_push}
use Rattle.std.proofs.lemmas.List.Elements.{All-contains, Contains-push}
use Rattle.move_model.specs.declared.network.NodeNo.{NodeNo}
use Rattle.move_model.specs.Streets.{Streets, IsVertex, IsLeastArc, HasDistance}
use Rattle.walk_hierarchy.specs.declared.arcs.UpDown.{UpDown}
use Rattle.walk_hierarchy.specs.declared.labels.Label.{Label}
use Rattle.walk_laws.specs.Sums.{IsSum, IsLeast}
use Rattle.walk_laws.specs.Sums.IsSum.{none as no_arcs}
use Rattle.walk_hierarchy.specs.Hierarchy.{Parts, IsNode, rank_of, HasArc, IsArcUp, IsArcDown, IsBefore, IsAdded, IsMade, IsHierarchy, IsLeastStreet, IsOver, IsUpDownSum, GivesDistances, IsWayOver, IsShortestWalk}
use Rattle.walk_hierarchy.specs.Labels.{HasLabel, AreSums}
use Rattle.walk_hierarchy.specs.Meeting.{IsArcBack}
use Rattle.walk_hierarchy.specs.Unfolding.{IsArcOf, IsStack, IsUnfolding}
use Rattle.walk_hierarchy.specs.Unfolding.IsStack.{none, more}
use Rattle.walk_hierarchy.specs.declared.way.Way.{Way}
use Rattle.walk_hierarchy.specs.Way.{IsWay}
use Rattle.walk_laws.proofs.SumLemmas.{IsSum-append, IsSum-one}
use Rattle.walk_hierarchy.proofs.MeetLaws.{distance_from}
use Rattle.walk_hierarchy.proofs.WayLaws.{way_starts, no_twice}

node_eq : (a b : NodeNo) → a.0 ≡ b.0 → a ≡ b
node_eq a b e = ap (λ (k : ℕ). let v : NodeNo = record { 0 = k } in v) e

-- stacks

pub stack_push : (xs : List UpDown) (x : UpDown) {v b : NodeNo} {m : ℕ} → IsStack xs v b m → x.to ≡ v → IsStack (xs ++ x ∷ []) x.from b (m + x.seconds)
stack_push xs x none e = more e none
stack_push xs x {v} {b} {m} (more {arc = y} {arcs = ys} {m = k} at rest) e =
    let whole : IsStack (y ∷ (ys ++ x ∷ [])) x.from b (k + x.seconds + y.seconds) = more at (stack_push ys x rest e) in
    subst (λ (n : ℕ). IsStack (y ∷ (ys ++ x ∷ [])) x.from b n) (omega arith) whole

pub record IsPopped (xs : List UpDown) (x : UpDown) (p b : NodeNo) (m : ℕ) : Type 0 where
  pub at : x.from ≡ p
  pub k : ℕ
  pub rest : IsStack xs x.to b k
  pub all : k + x.seconds ≡ m

stack_none : {p b : NodeNo} {m : ℕ} → IsStack [] p b m → (p ≡ b) × (m ≡ 0)
stack_none none = (refl, refl)

pub stack_pop : (xs : List UpDown) (x : UpDown) (p b : NodeNo) (m : ℕ) → IsStack (xs ++ x ∷ []) p b m → IsPopped xs x p b m
stack_pop [] x p b m (more {m = k} at rest) =
    let empty = stack_none rest in
    record { at = sym empty.0; k = 0; rest = subst (λ (v : NodeNo). IsStack [] x.to v 0) at none; all = omega (arith, empty.1) }
stack_pop (y ∷ ys) x p b m (more {m = k} at rest) =
    let popped = stack_pop ys x p y.from k rest in
    record { at = popped.at; k = popped.k + y.seconds; rest = more at popped.rest; all = omega (arith, popped.all) }

-- one arc for each two ends

before_far : (arcs : List UpDown) → AllAdjacentBelow IsBefore arcs (length arcs) → (n i j : ℕ) (d : UpDown) → j ≡ i + n + 1 → j < length arcs
    → IsBefore (slice_index_or arcs i d) (slice_index_or arcs j d)
before_far arcs rises zero i j d e lt =
    subst (λ (k : ℕ). IsBefore (slice_index_or arcs i d) (slice_index_or arcs k d)) (sym (let f : j ≡ i + 1 = omega arith in f)) (rises i d (omega arith))
before_far arcs rises (suc n) i j d e lt =
    let one : IsBefore (slice_index_or arcs i d) (slice_index_or arcs (i + n + 1) d) = before_far arcs rises n i (i + n + 1) d refl (omega arith) in
    let two : IsBefore (slice_index_or arcs (i + n + 1) d) (slice_index_or arcs (i + n + 1 + 1) d) = rises (i + n + 1) d (omega arith) in
    subst (λ (k : ℕ). IsBefore (slice_index_or arcs i d) (slice_index_or arcs k d)) (sym (let f : j ≡ i + n + 1 + 1 = omega arith in f))
    (before_trans (slice_index_or arcs i d) (slice_index_or arcs (i + n + 1) d) (slice_index_or arcs (i + n + 1 + 1) d) one two)
  where
    before_trans : (x y z : UpDown) → IsBefore x y → IsBefore y z → IsBefore x z
    before_trans x y z (inl lt) (inl mt) = inl (omega arith)
    before_trans x y z (inl lt) (inr mt) = inl (omega (arith, mt.0))
    before_trans x y z (inr lt) (inl mt) = inl (omega (arith, lt.0))
    before_trans x y z (inr lt) (inr mt) = inr (omega (arith, lt.0, mt.0), omega (arith, lt.1, mt.1))

not_before : (x y : UpDown) → x.from ≡ y.from → x.to ≡ y.to → IsBefore x y → ⊥
not_before x y from to (inl lt) = omega (arith, ap (λ (v : NodeNo). v.0) from)
not_before x y from to (inr lt) = omega (arith, lt.1, ap (λ (v : NodeNo). v.0) to)

pub one_arc : (arcs : List UpDown) → AllAdjacentBelow IsBefore arcs (length arcs) → (x y : UpDown) → Contains arcs x → Contains arcs y
    → x.from ≡ y.from → x.to ≡ y.to → x ≡ y
one_arc arcs rises x y (i, i_low, i_is) (j, j_low, j_is) from to =
    let at_y : slice_index_or arcs j x ≡ y = get_or_default arcs j x y j_low ∙ j_is in
    let later_x : slice_index_or arcs i y ≡ x = get_or_default arcs i y x i_low ∙ i_is in
    elim (cases_lt i j) [
      | inl lt ↦
          let before : IsBefore (slice_index_or arcs i x) (slice_index_or arcs j x) = before_far arcs rises (j - i - 1) i j x (omega arith) j_low in
          absurd (not_before x y from to (subst (λ (z : UpDown). IsBefore x z) at_y (subst (λ (z : UpDown). IsBefore z (slice_index_or arcs j x)) i_is before)))
      | inr ge ↦ elim (cases_lt j i) [
        | inl lt ↦
            let before : IsBefore (slice_index_or arcs j y) (slice_index_or arcs i y) = before_far arcs rises (i - j - 1) j i y (omega arith) i_low in
            absurd (not_before y x (sym from) (sym to) (subst (λ (z : UpDown). IsBefore y z) later_x (subst (λ (z : UpDown). IsBefore z (slice_index_or arcs i y)) j_is before)))
        | inr le ↦
            let e : i ≡ j = omega arith in
            sym i_is ∙ ap (λ (k : ℕ). slice_index_or arcs k x) e ∙ at_y
      ]
    ]

-- the rules, of one arc

module _ (h : Parts) (rules : IsHierarchy h) where
  pub added_of : (arc : UpDown) → IsArcOf h arc → arc.middle.0 ≢ 0 → IsAdded h arc
  added_of arc (inl up) ne = All-contains (IsMade h) h.up arc rules.up_made up ne
  added_of arc (inr down) ne = All-contains (IsMade h) h.down arc rules.down_made down ne

  pub ends_apart : (arc : UpDown) → IsArcOf h arc → arc.from ≢ arc.to
  ends_apart arc (inl up) same =
      let is = All-contains (IsArcUp h) h.up arc rules.up up in
      omega (arith, is.rises, ap (rank_of h) same)
  ends_apart arc (inr down) same =
      let is = All-contains (IsArcDown h) h.down arc rules.down down in
      omega (arith, is.falls, ap (rank_of h) same)

  pub to_node : (arc : UpDown) → IsArcOf h arc → IsNode h arc.to
  to_node arc (inl up) = (All-contains (IsArcUp h) h.up arc rules.up up).to
  to_node arc (inr down) = (All-contains (IsArcDown h) h.down arc rules.down down).to

  pub seconds_up : (arc : UpDown) (l : ℕ) → Contains h.up arc → HasArc h.up arc.from.0 arc.to.0 l → l ≡ arc.seconds
  seconds_up arc l stands has =
      let other : UpDown = record { from = arc.from; to = arc.to; seconds = l; middle = has.0 } in
      ap (λ (x : UpDown). x.seconds) (one_arc h.up rules.up_in_order other arc has.1 stands refl refl)

  pub seconds_down : (arc : UpDown) (l : ℕ) → Contains h.down arc → HasArc h.down arc.from.0 arc.to.0 l → l ≡ arc.seconds
  seconds_down arc l stands has =
      let other : UpDown = record { from = arc.from; to = arc.to; seconds = l; middle = has.0 } in
      ap (λ (x : UpDown). x.seconds) (one_arc h.down rules.down_in_order other arc has.1 stands refl refl)

  -- the two parts of an added arc have its seconds together
  pub parts_total : (arc first second : UpDown) → IsAdded h arc → Contains h.down first → Contains h.up second
      → first.from ≡ arc.from → first.to ≡ arc.middle → second.from ≡ arc.middle → second.to ≡ arc.to
      → first.seconds + second.seconds ≡ arc.seconds
  parts_total arc first second added down up from middle middle_too to =
      let one : added.l ≡ first.seconds =
      seconds_down first added.l down
      (subst (λ (v : NodeNo). HasArc h.down v.0 first.to.0 added.l) (sym from) (subst (λ (v : NodeNo). HasArc h.down arc.from.0 v.0 added.l) (sym middle) added.first)) in
      let two : added.k ≡ second.seconds =
      seconds_up second added.k up
      (subst (λ (v : NodeNo). HasArc h.up v.0 second.to.0 added.k) (sym middle_too) (subst (λ (v : NodeNo). HasArc h.up arc.middle.0 v.0 added.k) (sym to) added.second)) in
      omega (arith, one, two, added.total)

  module _ (graph : Streets) (over : IsOver graph h) where
    street_of : (arc : UpDown) → IsArcOf h arc → arc.middle.0 ≡ 0 → IsLeastArc graph.arcs arc.from arc.to arc.seconds
    street_of arc (inl up) e = All-contains (IsLeastStreet graph) h.up arc over.up up e
    street_of arc (inr down) e = All-contains (IsLeastStreet graph) h.down arc over.down down e

    -- along the street of the last arc
    pub unfolding_street : (a b : NodeNo) (total : ℕ) (xs : List UpDown) (arc : UpDown) (way longer : Way) → IsArcOf h arc → arc.middle.0 ≡ 0
        → ((p q : NodeNo) (m : ℕ) → IsVertex graph arc.to → q ≢ arc.to → IsLeastArc graph.arcs q arc.to arc.seconds
        → IsWay graph p q m way.places.items way.since → IsWay graph p arc.to (m + arc.seconds) longer.places.items longer.since)
        → IsUnfolding graph a b total (xs ++ arc ∷ []) way → IsUnfolding graph a b total xs longer
    unfolding_street a b total xs arc way longer is zero_middle goes_on so =
        let popped = stack_pop xs arc so.at b so.ahead so.stacked in
        let street : IsLeastArc graph.arcs so.at arc.to arc.seconds =
        subst (λ (v : NodeNo). IsLeastArc graph.arcs v arc.to arc.seconds) popped.at (street_of arc is zero_middle) in
        let vertex : IsVertex graph arc.to =
        let at = to_node arc is in record { from_one = at.from_one; to_nodes = omega (arith, at.to_nodes, over.nodes) } in
        record {
          at = arc.to;
          walked = so.walked + arc.seconds;
          ahead = popped.k;
          walks = goes_on a so.at so.walked vertex (λ same. ends_apart arc is (popped.at ∙ same)) street so.walks;
          stacked = popped.rest;
          all = omega (arith, popped.all, so.all);
        }

  -- the two parts in the place of the last arc
  pub unfolding_parts : (graph : Streets) (a b : NodeNo) (total : ℕ) (xs : List UpDown) (arc first second : UpDown) (way : Way)
      → first.from ≡ arc.from → first.to ≡ arc.middle → second.from ≡ arc.middle → second.to ≡ arc.to → first.seconds + second.seconds ≡ arc.seconds
      → IsUnfolding graph a b total (xs ++ arc ∷ []) way → IsUnfolding graph a b total ((xs ++ second ∷ []) ++ first ∷ []) way
  unfolding_parts graph a b total xs arc first second way from middle middle_too to sum so =
      let popped = stack_pop xs arc so.at b so.ahead so.stacked in
      let one : IsStack (xs ++ second ∷ []) second.from b (popped.k + second.seconds) = stack_push xs second popped.rest to in
      let two : IsStack ((xs ++ second ∷ []) ++ first ∷ []) first.from b (popped.k + second.seconds + first.seconds) = stack_push (xs ++ second ∷ []) first one (middle ∙ sym middle_too) in
      let there : IsStack ((xs ++ second ∷ []) ++ first ∷ []) so.at b (popped.k + second.seconds + first.seconds) =
      subst (λ (v : NodeNo). IsStack ((xs ++ second ∷ []) ++ first ∷ []) v b (popped.k + second.seconds + first.seconds)) (from ∙ popped.at) two in
      record {
        at = so.at;
        walked = so.walked;
        ahead = popped.k + second.seconds + first.seconds;
        walks = so.walks;
        stacked = there;
        all = omega (arith, popped.all, so.all, sum);
      }

-- each part weighs less

pub tower : ℕ → ℕ
tower zero = 1
tower (suc n) = 3 * tower n

tower_some : (n : ℕ) → 1 ≤ tower n
unfolding tower
tower_some zero = omega arith
tower_some (suc n) = omega (arith, tower_some n)

tower_rises : (m n : ℕ) → m ≤ n → tower m ≤ tower n
unfolding tower
tower_rises m zero le =
    let e : m ≡ 0 = omega arith in
    subst (λ (k : ℕ). tower k ≤ tower 0) (sym e) (omega arith)
tower_rises m (suc n) le = elim (cases_eq m (suc n)) [
  | inl e ↦ subst (λ (k : ℕ). tower k ≤ tower (suc n)) (sym e) (omega arith)
  | inr ne ↦ omega (arith, tower_rises m n (omega arith))
]

tower_more : (n : ℕ) → tower (suc n) ≡ 3 * tower n
unfolding tower
tower_more n = refl

module _ (h : Parts) where
  pub weigh : UpDown → ℕ
  weigh arc = if arc.middle.0 == 0 then 1 else tower (suc (rank_of h arc.middle))

  abbrev pub load : List UpDown → ℕ
  load stack = sum_by weigh stack

  weigh_some : (arc : UpDown) → 1 ≤ weigh arc
  unfolding weigh
  weigh_some arc = go (arc.middle.0 == 0)
    where
      go : (b : Bool) → 1 ≤ cond b 1 (tower (suc (rank_of h arc.middle)))
      go true = omega arith
      go false = tower_some (suc (rank_of h arc.middle))

  weigh_added : (arc : UpDown) → arc.middle.0 ≢ 0 → weigh arc ≡ tower (suc (rank_of h arc.middle))
  unfolding weigh
  weigh_added arc ne = go (arc.middle.0 == 0) refl
    where
      go : (b : Bool) → (arc.middle.0 == 0) ≡ b → cond b 1 (tower (suc (rank_of h arc.middle))) ≡ tower (suc (rank_of h arc.middle))
      go true test = absurd (ne (grind (arith, nat_tests)))
      go false test = refl

  weigh_below : (arc : UpDown) (r : ℕ) → (arc.middle.0 ≢ 0 → rank_of h arc.middle < r) → weigh arc ≤ tower r
  unfolding weigh
  weigh_below arc r below = go (arc.middle.0 == 0) refl
    where
      go : (b : Bool) → (arc.middle.0 == 0) ≡ b → cond b 1 (tower (suc (rank_of h arc.middle))) ≤ tower r
      go true test = tower_some r
      go false test =
          let ne : arc.middle.0 ≢ 0 = grind (arith, nat_tests) in
          let lt : rank_of h arc.middle < r = below ne in
          tower_rises (suc (rank_of h arc.middle)) r (omega arith)

  pub parts_weigh : IsHierarchy h → (arc first second : UpDown) → arc.middle.0 ≢ 0 → Contains h.down first → Contains h.up second
      → first.to ≡ arc.middle → second.from ≡ arc.middle → weigh first + weigh second < weigh arc
  parts_weigh rules arc first second ne down up middle middle_too =
      let one : weigh first ≤ tower (rank_of h arc.middle) =
      weigh_below first (rank_of h arc.middle) (λ has. omega (arith, (added_of h rules first (inr down) has).below_to, ap (rank_of h) middle)) in
      let two : weigh second ≤ tower (rank_of h arc.middle) =
      weigh_below second (rank_of h arc.middle) (λ has. omega (arith, (added_of h rules second (inl up) has).below_from, ap (rank_of h) middle_too)) in
      omega (arith, one, two, weigh_added arc ne, tower_some (rank_of h arc.middle), tower_more (rank_of h arc.middle))

  pub load_popped : (xs : List UpDown) (arc : UpDown) → load xs < load (xs ++ arc ∷ [])
  load_popped xs arc = omega (arith, sum_by_push weigh xs arc, weigh_some arc)

  pub load_parts : IsHierarchy h → (xs : List UpDown) (arc first second : UpDown) → arc.middle.0 ≢ 0 → Contains h.down first → Contains h.up second
      → first.to ≡ arc.middle → second.from ≡ arc.middle → load ((xs ++ second ∷ []) ++ first ∷ []) < load (xs ++ arc ∷ [])
  load_parts rules xs arc first second ne down up middle middle_too =
      omega (
        arith,
        sum_by_push weigh xs arc,
        sum_by_push weigh (xs ++ second ∷ []) first,
        sum_by_push weigh xs second,
        parts_weigh rules arc first second ne down up middle middle_too,
      )

-- along the parents of labels

pub record IsStep (arc : ℕ → ℕ → ℕ → Type 0) (from : ℕ) (labels : List (Option Label)) (v : ℕ) (x : Label) : Type 0 where
  pub y : Label
  pub k : ℕ
  pub before : HasLabel labels x.parent.0 y
  pub least : IsLeast (IsSum arc from x.parent.0) y.seconds
  pub leads : arc x.parent.0 v k
  pub exact : y.seconds + k ≡ x.seconds

pub step_back : (arc : ℕ → ℕ → ℕ → Type 0) (from : ℕ) (labels : List (Option Label)) (v : ℕ) (x : Label)
    → AreSums arc from labels → HasLabel labels v x → IsLeast (IsSum arc from v) x.seconds → v ≢ from → IsStep arc from labels v x
step_back arc from labels v x is has least ne = elim (is.comes v x has) [
  | inl first ↦ absurd (ne first.0)
  | inr via ↦
      let sum : IsSum arc from x.parent.0 via.y.seconds = is.sums x.parent.0 via.y via.before in
      let exact : via.y.seconds + via.k ≡ x.seconds = omega (arith, via.within, least.least (via.y.seconds + via.k) (IsSum-append sum (IsSum-one via.leads))) in
      record {
        y = via.y;
        k = via.k;
        before = via.before;
        least = record {
          attained = sum;
          least = λ n other. omega (arith, exact, least.least (n + via.k) (IsSum-append other (IsSum-one via.leads)));
        };
        leads = via.leads;
        exact = exact;
      }
]

pub first_zero : (arc : ℕ → ℕ → ℕ → Type 0) (from s : ℕ) → IsLeast (IsSum arc from from) s → s ≡ 0
first_zero arc from s is = omega (arith, is.least 0 no_arcs)

-- the walk at its first vertex
pub unfolding_first : (graph : Streets) (h : Parts) (over : IsOver graph h) (a top : NodeNo) (m : ℕ) (stack : List UpDown) (way : Way)
    → IsNode h a → way.places.items ≡ a ∷ [] → way.since ≡ 0 → IsStack stack a top m → IsUnfolding graph a top m stack way
unfolding_first graph h over a top m stack way is e since stacked =
    let vertex : IsVertex graph a = record { from_one = is.from_one; to_nodes = omega (arith, is.to_nodes, over.nodes) } in
    record {
      at = a;
      walked = 0;
      ahead = m;
      walks = subst (λ (w : List NodeNo). IsWay graph a a 0 w way.since) (sym e) (subst (λ (k : ℕ). IsWay graph a a 0 (a ∷ []) k) (sym since) (way_starts graph a vertex));
      stacked = stacked;
      all = omega arith;
    }

-- one arc more to go
pub unfolding_push : (graph : Streets) (a top : NodeNo) (m : ℕ) (arc : UpDown) (stack : List UpDown) (way : Way)
    → stack ≡ arc ∷ [] → arc.from ≡ top → IsUnfolding graph a top m [] way → IsUnfolding graph a arc.to (m + arc.seconds) stack way
unfolding_push graph a top m arc stack way e from so =
    let empty = stack_none so.stacked in
    let one : IsStack (arc ∷ []) arc.from arc.to (0 + arc.seconds) = more refl none in
    let there : IsStack stack so.at arc.to (0 + arc.seconds) =
    subst (λ (xs : List UpDown). IsStack xs so.at arc.to (0 + arc.seconds)) (sym e)
    (subst (λ (v : NodeNo). IsStack (arc ∷ []) v arc.to (0 + arc.seconds)) (from ∙ sym empty.0) one) in
    record {
      at = so.at;
      walked = so.walked;
      ahead = 0 + arc.seconds;
      walks = so.walks;
      stacked = there;
      all = omega (arith, so.all, empty.1);
    }

-- nothing is left to go
pub unfolded : (graph : Streets) (a b : NodeNo) (m : ℕ) (way : Way) → IsUnfolding graph a b m [] way → IsWay graph a b m way.places.items way.since
unfolded graph a b m way so =
    let empty = stack_none so.stacked in
    let same : so.walked ≡ m = omega (arith, so.all, empty.1) in
    subst (λ (v : NodeNo). IsWay graph a v m way.places.items way.since) empty.0 (subst (λ (k : ℕ). IsWay graph a so.at k way.places.items way.since) same so.walks)

-- the walk by way of the vertex where the searches met
pub way_over : (graph : Streets) (h : Parts) (a b : NodeNo) (m : ℕ) (way : Way) → IsLeast (IsUpDownSum h a b) m → IsUnfolding graph a b m [] way
    → IsWayOver graph h a b way.places.items
way_over graph h a b m way least so =
    let done = unfolded graph a b m way so in
    record { seconds = m; walks = done.walks; least = least; goes_on = done.goes_on; no_idle_circle = done.no_circle }

pub shortest_walk : (graph : Streets) (h : Parts) (a b : NodeNo) (m : ℕ) (way : Way) → IsNode h a → IsNode h b → GivesDistances graph h
    → IsLeast (IsUpDownSum h a b) m → IsUnfolding graph a b m [] way → IsShortestWalk graph a b way.places.items
shortest_walk graph h a b m way a_is b_is gives least so =
    let done = unfolded graph a b m way so in
    let distance : HasDistance graph a b (Some m) = distance_from h a b (Some m) a_is b_is least graph gives in
    record { seconds = m; walks = done.walks; least = distance; no_vertex_twice = no_twice graph done.walks done.vertices done.no_circle distance.least }

-- lists of arcs that end in one more

pub all_front : {A : Type 0} (P : A → Type 0) (xs : List A) (y : A) → All P (xs ++ y ∷ []) → All P xs
all_front P xs y all = λ k d lt. subst P (get_or_append_left xs (y ∷ []) d k lt) (all k d (omega (arith, length_push xs y, lt)))

pub all_end : {A : Type 0} (P : A → Type 0) (xs : List A) (y : A) → All P (xs ++ y ∷ []) → P y
all_end P xs y all = All-contains P (xs ++ y ∷ []) y all (Contains-push xs y)

pub no_arcs_of : (h : Parts) (xs : List UpDown) → xs ≡ [] → All (IsArcOf h) xs
no_arcs_of h xs e = subst (λ (ys : List UpDown). All (IsArcOf h) ys) (sym e) (λ k d lt. absurd (omega arith))

pub label_same : (labels : List (Option Label)) (v : ℕ) (x y : Label) → HasLabel labels v x → HasLabel labels v y → x ≡ y
label_same labels v x y f g = let e : Some x ≡ Some y = sym f.is ∙ g.is in cc

pub same_node : (a b : NodeNo) → a.0 ≡ b.0 → a ≡ b
same_node a b e = node_eq a b e

pub stack_start : (xs : List UpDown) (p : NodeNo) → xs ≡ [] → IsStack xs p p 0
stack_start xs p e = subst (λ (ys : List UpDown). IsStack ys p p 0) (sym e) none

-- the arc of a parent, with the label of the parent
pub record IsParent (way : ℕ → ℕ → ℕ → Type 0) (from : ℕ) (labels : List (Option Label)) (x : Label) (arc : UpDown) : Type 0 where
  pub y : Label
  pub before : HasLabel labels x.parent.0 y
  pub least : IsLeast (IsSum way from x.parent.0) y.seconds
  pub exact : y.seconds + arc.seconds ≡ x.seconds

module _ (h : Parts) (rules : IsHierarchy h) (labels : List (Option Label)) (at : NodeNo) (x : Label) (arc : UpDown) where
  pub parent_up : (from : NodeNo) → AreSums (HasArc h.up) from.0 labels → HasLabel labels at.0 x → IsLeast (IsSum (HasArc h.up) from.0 at.0) x.seconds → at.0 ≢ from.0
      → Contains h.up arc → arc.from ≡ x.parent → arc.to ≡ at → IsParent (HasArc h.up) from.0 labels x arc
  parent_up from sums has least ne stands begins ends =
      let step = step_back (HasArc h.up) from.0 labels at.0 x sums has least ne in
      let same : step.k ≡ arc.seconds =
      seconds_up h rules arc step.k stands
      (subst (λ (v : NodeNo). HasArc h.up v.0 arc.to.0 step.k) (sym begins) (subst (λ (v : NodeNo). HasArc h.up x.parent.0 v.0 step.k) (sym ends) step.leads)) in
      record { y = step.y; before = step.before; least = step.least; exact = omega (arith, same, step.exact) }

  pub parent_down : (to : NodeNo) → AreSums (IsArcBack h.down) to.0 labels → HasLabel labels at.0 x → IsLeast (IsSum (IsArcBack h.down) to.0 at.0) x.seconds → at.0 ≢ to.0
      → Contains h.down arc → arc.from ≡ at → arc.to ≡ x.parent → IsParent (IsArcBack h.down) to.0 labels x arc
  parent_down to sums has least ne stands begins ends =
      let step = step_back (IsArcBack h.down) to.0 labels at.0 x sums has least ne in
      let same : step.k ≡ arc.seconds =
      seconds_down h rules arc step.k stands
      (subst (λ (v : NodeNo). HasArc h.down v.0 arc.to.0 step.k) (sym begins) (subst (λ (v : NodeNo). HasArc h.down at.0 v.0 step.k) (sym ends) step.leads)) in
      record { y = step.y; before = step.before; least = step.least; exact = omega (arith, same, step.exact) }
