-- The halves of a row, and the arcs that they are halves of.
use Rattle.std.proofs.Common.{◌≡◌, ◌≢◌, ◌∙◌, ◌+◌, ◌-◌, ◌<◌, ◌≤◌, ◌⊎◌, ℕ, zero, suc, Bool, true, false, cond, List, [], ◌∷◌, length, slice_index_or, map, refl, sym, ap, subst, inl, inr, arith}
use Rattle.std.specs.Prelude.{◌==◌, filter, All, Contains}
use Rattle.std.proofs.lemmas.Bool.{cases_lt}
use Rattle.std.proofs.lemmas.Bool.Decides.{nat_tests}
use Rattle.std.proofs.lemmas.List.Elements.{All-contains, All-get_or, All-map, All-weaker}
use Rattle.move_model.specs.declared.network.NodeNo.{NodeNo}
use Rattle.walk_laws.specs.Sums.{longest}
use Rattle.walk_hierarchy.specs.declared.arcs.UpDown.{UpDown}
use Rattle.walk_hierarchy.specs.declared.rows.Half.{Half}
use Rattle.walk_hierarchy.specs.declared.rows.Side.{Side}
use Rattle.walk_hierarchy.specs.declared.rows.Side.TheVariants.{Out, Into}
use Rattle.walk_hierarchy.specs.declared.rows.Rows.{Rows}
use Rattle.walk_hierarchy.specs.Rows.{vertex_of, half_of, halves, IsRows}
use Rattle.walk_hierarchy.specs.Hierarchy.{Parts, IsNode, HasArc, IsArcUp, IsArcDown, IsHierarchy}
use Rattle.walk_hierarchy.specs.Stored.{AreAscents, AreDescents}
use Rattle.walk_hierarchy.specs.Places.{IsAt, place_of, place_arc, placed, HasEnds, AreNames, IsPlaced, IsRenumbered}
use Rattle.walk_hierarchy.specs.Search.{row_of, HasHalf, Climbs}
use Rattle.walk_hierarchy.specs.Meeting.{IsArcBack}
use Rattle.walk_hierarchy.proofs.PlaceLaws.{place_same}

contains_cons : {A : Type 0} (x : A) (xs : List A) (y : A) → Contains (x ∷ xs) y → (x ≡ y) ⊎ Contains xs y
contains_cons x xs y (zero, within, is) = inl is
contains_cons x xs y (suc k, within, is) = inr (k, omega (arith, within), is)

contains_first : {A : Type 0} (x : A) (xs : List A) (y : A) → x ≡ y → Contains (x ∷ xs) y
contains_first x xs y is = (0, omega arith, is)

contains_rest : {A : Type 0} (x : A) (xs : List A) (y : A) → Contains xs y → Contains (x ∷ xs) y
contains_rest x xs y (k, within, is) = (suc k, omega (arith, within), is)

-- the arc of a half
pub record IsHalfOf (side : Side) (v : ℕ) (arcs : List UpDown) (half : Half) : Type 0 where
  pub arc : UpDown
  pub stands : Contains arcs arc
  pub at : vertex_of side arc ≡ v
  pub is : half_of side arc ≡ half

half_later : (side : Side) (v : ℕ) (arc : UpDown) (arcs : List UpDown) (half : Half) → IsHalfOf side v arcs half → IsHalfOf side v (arc ∷ arcs) half
half_later side v arc arcs half found =
    record { arc = found.arc; stands = contains_rest arc arcs found.arc found.stands; at = found.at; is = found.is }

half_cases : (side : Side) (v : ℕ) (arc : UpDown) (arcs : List UpDown) (half : Half) (b : Bool) → (vertex_of side arc == v) ≡ b
    → (Contains (halves side v arcs) half → IsHalfOf side v arcs half)
    → Contains (map (half_of side) (cond b (arc ∷ filter (λ a. vertex_of side a == v) arcs) (filter (λ a. vertex_of side a == v) arcs))) half
    → IsHalfOf side v (arc ∷ arcs) half
half_cases side v arc arcs half true test later here = elim (contains_cons (half_of side arc) (halves side v arcs) half here) [
  | inl is ↦ record { arc = arc; stands = contains_first arc arcs arc refl; at = grind (arith, nat_tests); is = is }
  | inr rest ↦ half_later side v arc arcs half (later rest)
]
half_cases side v arc arcs half false test later here = half_later side v arc arcs half (later here)

pub half_from : (side : Side) (v : ℕ) (arcs : List UpDown) (half : Half) → Contains (halves side v arcs) half → IsHalfOf side v arcs half
half_from side v [] half has = absurd (omega (arith, has.1))
half_from side v (arc ∷ arcs) half has = half_cases side v arc arcs half (vertex_of side arc == v) refl (half_from side v arcs half) has

arc_cases : (side : Side) (first : UpDown) (arcs : List UpDown) (arc : UpDown) (v : ℕ) (b : Bool) → (vertex_of side first == v) ≡ b → vertex_of side arc ≡ v
    → (first ≡ arc) ⊎ Contains (halves side v arcs) (half_of side arc)
    → Contains (map (half_of side) (cond b (first ∷ filter (λ a. vertex_of side a == v) arcs) (filter (λ a. vertex_of side a == v) arcs))) (half_of side arc)
arc_cases side first arcs arc v true test at (inl is) = contains_first (half_of side first) (halves side v arcs) (half_of side arc) (ap (half_of side) is)
arc_cases side first arcs arc v true test at (inr rest) = contains_rest (half_of side first) (halves side v arcs) (half_of side arc) rest
arc_cases side first arcs arc v false test at (inl is) =
    let same : vertex_of side first ≡ v = ap (vertex_of side) is ∙ at in
    absurd (grind (arith, nat_tests))
arc_cases side first arcs arc v false test at (inr rest) = rest

pub half_of_arc : (side : Side) (arcs : List UpDown) (arc : UpDown) (v : ℕ) → Contains arcs arc → vertex_of side arc ≡ v → Contains (halves side v arcs) (half_of side arc)
half_of_arc side [] arc v has at = absurd (omega (arith, has.1))
half_of_arc side (first ∷ arcs) arc v has at =
    let there : (first ≡ arc) ⊎ Contains (halves side v arcs) (half_of side arc) = elim (contains_cons first arcs arc has) [
      | inl is ↦ inl is
      | inr rest ↦ inr (half_of_arc side arcs arc v rest at)
    ] in
    arc_cases side first arcs arc v (vertex_of side first == v) refl at there

-- rows that were gathered
module _ (rows : Rows) (side : Side) (nodes : ℕ) (arcs : List UpDown) (is : IsRows rows side nodes arcs) where
  pub arc_of_half : (p q l : ℕ) → (has : HasHalf rows p q l) → IsHalfOf side p arcs (record { seconds = l; to = record { 0 = q }; middle = has.middle })
  arc_of_half p q l has =
      let h : Half = record { seconds = l; to = record { 0 = q }; middle = has.middle } in
      let low : p ≤ nodes = omega (arith, has.exists, is.starts) in
      half_from side p arcs h (subst (λ (row : List Half). Contains row h) ((is.each p low).holds) has.stands)

  pub half_there : (arc : UpDown) → Contains arcs arc → vertex_of side arc ≤ nodes
      → HasHalf rows (vertex_of side arc) (half_of side arc).to.0 (half_of side arc).seconds
  half_there arc stands low = record {
    middle = (half_of side arc).middle;
    exists = omega (arith, is.starts, low);
    stands = subst (λ (row : List Half). Contains row (half_of side arc)) (sym (is.each (vertex_of side arc) low).holds) (half_of_arc side arcs arc (vertex_of side arc) stands refl);
  }

  -- each half leads to a greater rank
  pub record IsRising (rank : ℕ → ℕ) (arc : UpDown) : Type 0 where
    pub rises : rank (vertex_of side arc) < rank (half_of side arc).to.0
    pub to : (half_of side arc).to.0 ≤ nodes
    pub short : (half_of side arc).seconds ≤ longest

  pub climbs_from : (rank : ℕ → ℕ) → ((v : ℕ) → rank v ≤ 2000000) → All (IsRising rank) arcs → Climbs rows (nodes + 1)
  climbs_from rank low all = record {
    starts = omega (arith, is.starts);
    rises = λ v lt. (is.each v (omega arith)).rises;
    within = λ v lt. (is.each v (omega arith)).within;
    rank = rank;
    low = low;
    climbs = λ p q l has.
        let arc = arc_of_half p q l has in
        let rises = All-contains (IsRising rank) arcs arc.arc all arc.stands in
        omega (arith, rises.rises, ap rank arc.at, ap (λ (h : Half). rank h.to.0) arc.is);
    short = λ p q l has.
        let arc = arc_of_half p q l has in
        let rises = All-contains (IsRising rank) arcs arc.arc all arc.stands in
        omega (arith, rises.short, ap (λ (h : Half). h.seconds) arc.is);
    ends = λ p q l has.
        let arc = arc_of_half p q l has in
        let rises = All-contains (IsRising rank) arcs arc.arc all arc.stands in
        omega (arith, rises.to, ap (λ (h : Half). h.to.0) arc.is);
  }

-- the arcs with the places of their ends

contains_map : {A B : Type 0} (f : A → B) (xs : List A) (y : B) → Contains (map f xs) y → (x : A) × (Contains xs x × (f x ≡ y))
contains_map f [] y has = absurd (omega (arith, has.1))
contains_map f (x ∷ xs) y has = elim (contains_cons (f x) (map f xs) y has) [
  | inl is ↦ (x, (contains_first x xs x refl, is))
  | inr rest ↦
      let found = contains_map f xs y rest in
      (found.0, (contains_rest x xs found.0 found.1.0, found.1.1))
]

map_contains : {A B : Type 0} (f : A → B) (xs : List A) (x : A) → Contains xs x → Contains (map f xs) (f x)
map_contains f [] x has = absurd (omega (arith, has.1))
map_contains f (y ∷ xs) x has = elim (contains_cons y xs x has) [
  | inl is ↦ contains_first (f y) (map f xs) (f x) (ap f is)
  | inr rest ↦ contains_rest (f y) (map f xs) (f x) (map_contains f xs x rest)
]

pub vertex_at : (h : Parts) (v : NodeNo) → IsNode h v → IsAt h.ranks v.0
vertex_at h v is = record { from_one = is.from_one; to_nodes = is.to_nodes }

pub node_at : (h : Parts) (v : NodeNo) → IsAt h.ranks v.0 → IsNode h v
node_at h v is = record { from_one = is.from_one; to_nodes = is.to_nodes }

pub place_low : (h : Parts) → IsHierarchy h → (v : ℕ) → IsAt h.ranks v → place_of h.ranks v ≤ length h.ranks
place_low h rules v at =
    let low : v - 1 < length h.ranks = omega (arith, at.from_one, at.to_nodes) in
    omega (arith, All-get_or (λ rank. rank < length h.ranks) h.ranks (v - 1) 0 low rules.ranks.below)

-- a place up to the greatest number of vertices, and this number for a greater one
abbrev pub up_to : ℕ → ℕ
up_to p = p - (p - 2000000)

pub ends_up : (h : Parts) → IsHierarchy h → All (HasEnds h.ranks) h.up
ends_up h rules =
    All-weaker (IsArcUp h) (HasEnds h.ranks) (λ arc up. record { from = vertex_at h arc.from up.from; to = vertex_at h arc.to up.to }) h.up rules.up

pub ends_down : (h : Parts) → IsHierarchy h → All (HasEnds h.ranks) h.down
ends_down h rules =
    All-weaker (IsArcDown h) (HasEnds h.ranks) (λ arc down. record { from = vertex_at h arc.from down.from; to = vertex_at h arc.to down.to }) h.down rules.down

pub low_up : (h : Parts) → IsHierarchy h → All (λ arc. vertex_of Out arc ≤ length h.ranks) (placed h.ranks h.up)
low_up h rules =
    All-map (λ arc. vertex_of Out arc ≤ length h.ranks) (place_arc h.ranks) h.up
    (All-weaker (HasEnds h.ranks) (λ arc. vertex_of Out (place_arc h.ranks arc) ≤ length h.ranks) (λ arc ends. place_low h rules arc.from.0 ends.from) h.up (ends_up h rules))

pub low_down : (h : Parts) → IsHierarchy h → All (λ arc. vertex_of Into arc ≤ length h.ranks) (placed h.ranks h.down)
low_down h rules =
    All-map (λ arc. vertex_of Into arc ≤ length h.ranks) (place_arc h.ranks) h.down
    (All-weaker (HasEnds h.ranks) (λ arc. vertex_of Into (place_arc h.ranks arc) ≤ length h.ranks) (λ arc ends. place_low h rules arc.to.0 ends.to) h.down (ends_down h rules))

module _ (h : Parts) (rules : IsHierarchy h) (rows : Rows) where
  module _ (s : AreAscents h rows) where
    pub ascents_climb : Climbs rows (length h.ranks + 1)
    ascents_climb =
        climbs_from rows Out (length h.ranks) (placed h.ranks h.up) s up_to (λ v. omega arith)
        (All-map (IsRising rows Out (length h.ranks) (placed h.ranks h.up) s up_to) (place_arc h.ranks) h.up
        (All-weaker (IsArcUp h) (λ arc. IsRising rows Out (length h.ranks) (placed h.ranks h.up) s up_to (place_arc h.ranks arc))
        (λ arc up.
        let low = place_low h rules arc.to.0 (vertex_at h arc.to up.to) in
        record { rises = omega (arith, up.rises, low, rules.nodes); to = low; short = up.short }) h.up rules.up))

    pub arc_up_of : (p q l : ℕ) → HasHalf rows p q l → IsPlaced h.ranks (HasArc h.up) p q l
    arc_up_of p q l has =
        let half = arc_of_half rows Out (length h.ranks) (placed h.ranks h.up) s p q l has in
        let arc = contains_map (place_arc h.ranks) h.up half.arc half.stands in
        let seconds : arc.0.seconds ≡ l = ap (λ (a : UpDown). a.seconds) arc.1.1 ∙ ap (λ (f : Half). f.seconds) half.is in
        record {
          from = arc.0.from.0;
          to = arc.0.to.0;
          leads = (
            arc.0.middle,
            subst (λ (m : ℕ). Contains h.up (record { from = arc.0.from; to = arc.0.to; seconds = m; middle = arc.0.middle })) seconds arc.1.0,
          );
          begins = ap (λ (a : UpDown). a.from.0) arc.1.1 ∙ half.at;
          ends = ap (λ (a : UpDown). a.to.0) arc.1.1 ∙ ap (λ (f : Half). f.to.0) half.is;
        }

    pub half_up_of : (v w l : ℕ) → HasArc h.up v w l → HasHalf rows (place_of h.ranks v) (place_of h.ranks w) l
    half_up_of v w l has =
        let arc : UpDown = record { from = record { 0 = v }; to = record { 0 = w }; seconds = l; middle = has.0 } in
        half_there rows Out (length h.ranks) (placed h.ranks h.up) s (place_arc h.ranks arc) (map_contains (place_arc h.ranks) h.up arc has.1)
        (place_low h rules v (All-contains (HasEnds h.ranks) h.up arc (ends_up h rules) has.1).from)

    pub up_renumbered : IsRenumbered h.ranks (HasHalf rows) (HasArc h.up)
    up_renumbered = record {
      there = arc_up_of;
      back = half_up_of;
      from = λ v w l has.
          (All-contains (HasEnds h.ranks) h.up (record { from = record { 0 = v }; to = record { 0 = w }; seconds = l; middle = has.0 }) (ends_up h rules) has.1).from;
      to = λ v w l has.
          (All-contains (HasEnds h.ranks) h.up (record { from = record { 0 = v }; to = record { 0 = w }; seconds = l; middle = has.0 }) (ends_up h rules) has.1).to;
    }

  module _ (s : AreDescents h rows) where
    pub descents_climb : Climbs rows (length h.ranks + 1)
    descents_climb =
        climbs_from rows Into (length h.ranks) (placed h.ranks h.down) s up_to (λ v. omega arith)
        (All-map (IsRising rows Into (length h.ranks) (placed h.ranks h.down) s up_to) (place_arc h.ranks) h.down
        (All-weaker (IsArcDown h) (λ arc. IsRising rows Into (length h.ranks) (placed h.ranks h.down) s up_to (place_arc h.ranks arc))
        (λ arc down.
        let low = place_low h rules arc.from.0 (vertex_at h arc.from down.from) in
        record { rises = omega (arith, down.falls, low, rules.nodes); to = low; short = down.short }) h.down rules.down))

    pub arc_down_of : (p q l : ℕ) → HasHalf rows p q l → IsPlaced h.ranks (IsArcBack h.down) p q l
    arc_down_of p q l has =
        let half = arc_of_half rows Into (length h.ranks) (placed h.ranks h.down) s p q l has in
        let arc = contains_map (place_arc h.ranks) h.down half.arc half.stands in
        let seconds : arc.0.seconds ≡ l = ap (λ (a : UpDown). a.seconds) arc.1.1 ∙ ap (λ (f : Half). f.seconds) half.is in
        record {
          from = arc.0.to.0;
          to = arc.0.from.0;
          leads = (
            arc.0.middle,
            subst (λ (m : ℕ). Contains h.down (record { from = arc.0.from; to = arc.0.to; seconds = m; middle = arc.0.middle })) seconds arc.1.0,
          );
          begins = ap (λ (a : UpDown). a.to.0) arc.1.1 ∙ half.at;
          ends = ap (λ (a : UpDown). a.from.0) arc.1.1 ∙ ap (λ (f : Half). f.to.0) half.is;
        }

    pub half_down_of : (v w l : ℕ) → IsArcBack h.down v w l → HasHalf rows (place_of h.ranks v) (place_of h.ranks w) l
    half_down_of v w l has =
        let arc : UpDown = record { from = record { 0 = w }; to = record { 0 = v }; seconds = l; middle = has.0 } in
        half_there rows Into (length h.ranks) (placed h.ranks h.down) s (place_arc h.ranks arc) (map_contains (place_arc h.ranks) h.down arc has.1)
        (place_low h rules v (All-contains (HasEnds h.ranks) h.down arc (ends_down h rules) has.1).to)

    pub down_renumbered : IsRenumbered h.ranks (HasHalf rows) (IsArcBack h.down)
    down_renumbered = record {
      there = arc_down_of;
      back = half_down_of;
      from = λ v w l has.
          (All-contains (HasEnds h.ranks) h.down (record { from = record { 0 = w }; to = record { 0 = v }; seconds = l; middle = has.0 }) (ends_down h rules) has.1).to;
      to = λ v w l has.
          (All-contains (HasEnds h.ranks) h.down (record { from = record { 0 = w }; to = record { 0 = v }; seconds = l; middle = has.0 }) (ends_down h rules) has.1).from;
    }

  -- a half that was found, as the arc that it is
  module _ (names : List ℕ) (are : AreNames h.ranks names) (from to : NodeNo) (from_at : IsAt h.ranks from.0) (to_at : IsAt h.ranks to.0) (half : Half) where
    pub up_stands : AreAscents h rows → Contains (row_of rows (place_of h.ranks from.0)) half → half.to.0 ≡ place_of h.ranks to.0
        → Contains h.up (record { from = from; to = to; seconds = half.seconds; middle = half.middle })
    up_stands s has leads =
        let found = half_from Out (place_of h.ranks from.0) (placed h.ranks h.up) half
        (subst (λ (row : List Half). Contains row half) (s.each (place_of h.ranks from.0) (place_low h rules from.0 from_at)).holds has) in
        let arc = contains_map (place_arc h.ranks) h.up found.arc found.stands in
        let ends = All-contains (HasEnds h.ranks) h.up arc.0 (ends_up h rules) arc.1.0 in
        let begins_at : arc.0.from.0 ≡ from.0 = place_same h.ranks names are arc.0.from.0 from.0 ends.from from_at (ap (λ (a : UpDown). a.from.0) arc.1.1 ∙ found.at) in
        let ends_at : arc.0.to.0 ≡ to.0 = place_same h.ranks names are arc.0.to.0 to.0 ends.to to_at (ap (λ (a : UpDown). a.to.0) arc.1.1 ∙ ap (λ (f : Half). f.to.0) found.is ∙ leads) in
        let seconds : arc.0.seconds ≡ half.seconds = ap (λ (a : UpDown). a.seconds) arc.1.1 ∙ ap (λ (f : Half). f.seconds) found.is in
        let middle : arc.0.middle ≡ half.middle = ap (λ (a : UpDown). a.middle) arc.1.1 ∙ ap (λ (f : Half). f.middle) found.is in
        subst (λ (a : UpDown). Contains h.up a)
        (λ i. record { from = record { 0 = begins_at i }; to = record { 0 = ends_at i }; seconds = seconds i; middle = middle i }) arc.1.0

    pub down_stands : AreDescents h rows → Contains (row_of rows (place_of h.ranks to.0)) half → half.to.0 ≡ place_of h.ranks from.0
        → Contains h.down (record { from = from; to = to; seconds = half.seconds; middle = half.middle })
    down_stands s has leads =
        let found = half_from Into (place_of h.ranks to.0) (placed h.ranks h.down) half
        (subst (λ (row : List Half). Contains row half) (s.each (place_of h.ranks to.0) (place_low h rules to.0 to_at)).holds has) in
        let arc = contains_map (place_arc h.ranks) h.down found.arc found.stands in
        let ends = All-contains (HasEnds h.ranks) h.down arc.0 (ends_down h rules) arc.1.0 in
        let ends_at : arc.0.to.0 ≡ to.0 = place_same h.ranks names are arc.0.to.0 to.0 ends.to to_at (ap (λ (a : UpDown). a.to.0) arc.1.1 ∙ found.at) in
        let begins_at : arc.0.from.0 ≡ from.0 = place_same h.ranks names are arc.0.from.0 from.0 ends.from from_at (ap (λ (a : UpDown). a.from.0) arc.1.1 ∙ ap (λ (f : Half). f.to.0) found.is ∙ leads) in
        let seconds : arc.0.seconds ≡ half.seconds = ap (λ (a : UpDown). a.seconds) arc.1.1 ∙ ap (λ (f : Half). f.seconds) found.is in
        let middle : arc.0.middle ≡ half.middle = ap (λ (a : UpDown). a.middle) arc.1.1 ∙ ap (λ (f : Half). f.middle) found.is in
        subst (λ (a : UpDown). Contains h.down a)
        (λ i. record { from = record { 0 = begins_at i }; to = record { 0 = ends_at i }; seconds = seconds i; middle = middle i }) arc.1.0

-- the half that is looked for stands further on
pub find_within : (row : List Half) (to : NodeNo) (i : ℕ) → (half : Half) × (Contains row half × (half.to ≡ to))
    → ((k : ℕ) (d : Half) → k < i → (slice_index_or row k d).to ≢ to) → i < length row
find_within row to i has passed = elim (cases_lt has.1.0.0 i) [
  | inl lt ↦ absurd (passed has.1.0.0 has.0 lt (ap (λ (h : Half). h.to) has.1.0.2 ∙ has.1.1))
  | inr le ↦ omega (arith, le, has.1.0.1)
]
