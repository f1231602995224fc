-- The arcs of one vertex after the other, and in order.
use Rattle.std.proofs.Common.{◌≡◌, ◌≢◌, ℕ, ◌+◌, ◌-◌, ◌*◌, ◌<◌, ◌≤◌, ◌⊎◌, ◌==◌, List, [], ◌++◌, length, slice_index_or, arith, sym, ap, subst, inl, inr, ◌∙◌}
use Rattle.std.specs.Prelude.{All, AllPairs, Contains, map}
use Rattle.std.specs.List.{AllAdjacentBelow, IsDistinct}
use Rattle.std.specs.List.Sorted.{IsPermutation, IsNonDecreasingBy, IsNonDecreasing, IsStrictlyIncreasing}
use Rattle.std.proofs.lemmas.Bool.{cases_eq, cases_lt, eq-eqb, ne_eqb}
use Rattle.std.proofs.lemmas.Bool.Decides.{Decides-eqb}
use Rattle.std.proofs.lemmas.List.{get_or-map, get_or_append_left, get_or-append-add, length-map, length-append}
use Rattle.std.proofs.lemmas.List.Elements.{All-contains, Contains-get_or, Contains-append_left, Contains-append_right, Contains-append_cases}
use Rattle.std.proofs.lemmas.List.Sorted.{IsPermutation-map, All-permutation, Contains-permutation}
use Rattle.std.proofs.lemmas.Map.Keys.{IsDistinct-IsPermutation, IsStrictlyIncreasing-from_distinct}
use Rattle.std.proofs.lemmas.Map.Made.{AllPairs-from_IsDistinct, IsDistinct-from_AllPairs}
use Rattle.move_model.specs.declared.network.NodeNo.{NodeNo}
use Rattle.walk_laws.specs.declared.CoreArc.{CoreArc}
use Rattle.walk_core.specs.Core.{Contraction, HasDifferentEnds}
use Rattle.walk_hierarchy.specs.declared.arcs.UpDown.{UpDown}
use Rattle.walk_hierarchy.specs.Hierarchy.{IsBefore}
use Rattle.walk_order.specs.declared.arcs.Side.{Side}
use Rattle.walk_order.specs.declared.arcs.Side.TheVariants.{Up, Down}
use Rattle.walk_order.specs.Lists.{row_at, with_ends, ends_of, IsArcOf, AreArcsOf}

-- lists

Contains-map : {X Y : Type 0} (f : X → Y) (xs : List X) (x : X) → Contains xs x → Contains (map f xs) (f x)
Contains-map f xs x (k, lt, e) = (k, omega (arith, lt, length-map xs f), get_or-map f xs k x (f x) lt ∙ ap f e)

Contains-map_back : {X Y : Type 0} (f : X → Y) (xs : List X) (y : Y) (d : X) → Contains (map f xs) y → (x : X) × Contains xs x × (y ≡ f x)
Contains-map_back f xs y d (k, lt, e) =
    let low : k < length xs = omega (arith, lt, length-map xs f) in
    (slice_index_or xs k d, Contains-get_or xs k d low, sym e ∙ get_or-map f xs k d y low)

-- an element behind the first list
append_at : {X : Type 0} (xs ys : List X) (k : ℕ) (d : X) → length xs ≤ k → slice_index_or (xs ++ ys) k d ≡ slice_index_or ys (k - length xs) d
append_at xs ys k d ge =
    let at : k ≡ length xs + (k - length xs) = omega (arith, ge) in
    ap (λ (n : ℕ). slice_index_or (xs ++ ys) n d) at ∙ get_or-append-add xs ys (k - length xs) d

AllPairs-append : {X : Type 0} (R : X → X → Type 0) (xs ys : List X) → AllPairs R xs → AllPairs R ys
    → ((x y : X) → Contains xs x → Contains ys y → R x y) → AllPairs R (xs ++ ys)
AllPairs-append {X} R xs ys one two both i j d before lt =
    elim (cases_lt j (length xs)) [
      | inl low ↦
          subst (λ (x : X). R x (slice_index_or (xs ++ ys) j d)) (sym (get_or_append_left xs ys d i (omega (arith, before, low))))
          (subst (λ (y : X). R (slice_index_or xs i d) y) (sym (get_or_append_left xs ys d j low)) (one i j d before low))
      | inr ge ↦
          let j_low : j - length xs < length ys = omega (arith, ge, lt, length-append xs ys) in
          subst (λ (y : X). R (slice_index_or (xs ++ ys) i d) y) (sym (append_at xs ys j d ge))
          (elim (cases_lt i (length xs)) [
            | inl i_low ↦
                subst (λ (x : X). R x (slice_index_or ys (j - length xs) d)) (sym (get_or_append_left xs ys d i i_low))
                (both _ _ (Contains-get_or xs i d i_low) (Contains-get_or ys (j - length xs) d j_low))
            | inr i_ge ↦
                subst (λ (x : X). R x (slice_index_or ys (j - length xs) d)) (sym (append_at xs ys i d i_ge))
                (two (i - length xs) (j - length xs) d (omega (arith, before, i_ge)) j_low)
          ])
    ]

-- what arcs are ordered by

pair_apart : (a b c d : ℕ) → b < 4294967296 → d < 4294967296 → a * 4294967296 + b ≡ c * 4294967296 + d → (a ≡ c) × (b ≡ d)
pair_apart a b c d b_low d_low e = (omega arith, omega arith)

row_apart : (side : Side) (v : NodeNo) (x y : CoreArc) → v.0 < 4294967296 → x.to.0 < 4294967296 → y.to.0 < 4294967296 → x.to.0 ≢ y.to.0
    → ends_of (with_ends side v x) ≢ ends_of (with_ends side v y)
row_apart Up v x y v_low x_low y_low ne = λ e. ne (pair_apart v.0 x.to.0 v.0 y.to.0 x_low y_low e).1
row_apart Down v x y v_low x_low y_low ne = λ e. ne (pair_apart x.to.0 v.0 y.to.0 v.0 v_low v_low e).0

node_apart : (side : Side) (v w : NodeNo) (x y : CoreArc) → v.0 < 4294967296 → w.0 < 4294967296 → x.to.0 < 4294967296 → y.to.0 < 4294967296 → v.0 ≢ w.0
    → ends_of (with_ends side v x) ≢ ends_of (with_ends side w y)
node_apart Up v w x y v_low w_low x_low y_low ne = λ e. ne (pair_apart v.0 x.to.0 w.0 y.to.0 x_low y_low e).0
node_apart Down v w x y v_low w_low x_low y_low ne = λ e. ne (pair_apart x.to.0 v.0 y.to.0 w.0 v_low w_low e).1

-- one vertex after the other

pub AreArcsOf-none : (side : Side) (core : Contraction) → AreArcsOf side core 0 []
AreArcsOf-none side core =
    record {
      only = λ k d lt. absurd (omega (arith, lt));
      each = λ v half one low c. absurd (omega (arith, one, low));
      once = λ i j d before lt. absurd (omega (arith, lt));
    }

-- the other ends are vertices, and those of a row differ
pub record AreRows (side : Side) (core : Contraction) : Type 0 where
  pub few : core.nodes < 4294967296
  pub ends : (v : NodeNo) (half : CoreArc) → Contains (row_at side core v.0) half → half.to.0 ≤ core.nodes
  pub apart : (v : NodeNo) → HasDifferentEnds (row_at side core v.0)

module _ (side : Side) (core : Contraction) (rows : AreRows side core) (n : ℕ) (arcs : List UpDown) (done : AreArcsOf side core n arcs) (low : n + 1 ≤ core.nodes) (v : NodeNo)
    (node : v.0 ≡ n + 1) where
  no_half : CoreArc
  no_half = record { seconds = 0; to = v; middle = v }

  only_more : (arc : UpDown) → Contains (arcs ++ map (with_ends side v) (row_at side core v.0)) arc → IsArcOf side core (n + 1) arc
  only_more arc c =
      elim (Contains-append_cases arcs (map (with_ends side v) (row_at side core v.0)) arc c) [
        | inl old ↦
            let was : IsArcOf side core n arc = All-contains (IsArcOf side core n) arcs arc done.only old in
            record { node = was.node; half = was.half; from_one = was.from_one; low = omega (arith, was.low); stands = was.stands; is = was.is }
        | inr new ↦
            let from = Contains-map_back (with_ends side v) (row_at side core v.0) arc no_half new in
            record { node = v; half = from.0; from_one = omega (arith, node); low = omega (arith, node); stands = from.1; is = from.2 }
      ]

  each_more : (w : NodeNo) (half : CoreArc) → 1 ≤ w.0 → w.0 ≤ n + 1 → Contains (row_at side core w.0) half
      → Contains (arcs ++ map (with_ends side v) (row_at side core v.0)) (with_ends side w half)
  each_more w half one w_low c =
      elim (cases_eq w.0 v.0) [
        | inl e ↦
            subst (λ (x : ℕ). Contains (arcs ++ map (with_ends side v) (row_at side core v.0)) (with_ends side (record { 0 = x }) half)) (sym e)
            (Contains-append_right arcs (map (with_ends side v) (row_at side core v.0)) (with_ends side v half)
            (Contains-map (with_ends side v) (row_at side core v.0) half (subst (λ (x : ℕ). Contains (row_at side core x) half) e c)))
        | inr ne ↦ Contains-append_left arcs (map (with_ends side v) (row_at side core v.0)) (with_ends side w half) (done.each w half one (omega (arith, w_low, ne, node)) c)
      ]

  once_new : AllPairs (λ (arc other : UpDown). ends_of arc ≢ ends_of other) (map (with_ends side v) (row_at side core v.0))
  once_new i j d before lt =
      let j_low : j < length (row_at side core v.0) = omega (arith, lt, length-map (row_at side core v.0) (with_ends side v)) in
      let i_low : i < length (row_at side core v.0) = omega (arith, before, j_low) in
      let x : CoreArc = slice_index_or (row_at side core v.0) i no_half in
      let y : CoreArc = slice_index_or (row_at side core v.0) j no_half in
      let x_ends : x.to.0 ≤ core.nodes = rows.ends v x (Contains-get_or (row_at side core v.0) i no_half i_low) in
      let y_ends : y.to.0 ≤ core.nodes = rows.ends v y (Contains-get_or (row_at side core v.0) j no_half j_low) in
      let differ : ends_of (with_ends side v x) ≢ ends_of (with_ends side v y) =
      row_apart side v x y (omega (arith, node, low, rows.few)) (omega (arith, x_ends, rows.few)) (omega (arith, y_ends, rows.few)) (rows.apart v i j no_half before j_low) in
      λ e. differ (
      sym (ap ends_of (get_or-map (with_ends side v) (row_at side core v.0) i no_half d i_low)) ∙ e
      ∙ ap ends_of (get_or-map (with_ends side v) (row_at side core v.0) j no_half d j_low)
      )

  once_both : (arc other : UpDown) → Contains arcs arc → Contains (map (with_ends side v) (row_at side core v.0)) other → ends_of arc ≢ ends_of other
  once_both arc other old new =
      let was : IsArcOf side core n arc = All-contains (IsArcOf side core n) arcs arc done.only old in
      let from = Contains-map_back (with_ends side v) (row_at side core v.0) other no_half new in
      let was_ends : was.half.to.0 ≤ core.nodes = rows.ends was.node was.half was.stands in
      let new_ends : from.0.to.0 ≤ core.nodes = rows.ends v from.0 from.1 in
      let differ : ends_of (with_ends side was.node was.half) ≢ ends_of (with_ends side v from.0) =
      node_apart side was.node v was.half from.0 (omega (arith, was.low, low, rows.few)) (omega (arith, node, low, rows.few)) (omega (arith, was_ends, rows.few))
      (omega (arith, new_ends, rows.few)) (λ e. omega (arith, e, was.low, node)) in
      λ e. differ (sym (ap ends_of was.is) ∙ e ∙ ap ends_of from.2)

  pub AreArcsOf-more : AreArcsOf side core (n + 1) (arcs ++ map (with_ends side v) (row_at side core v.0))
  AreArcsOf-more =
      record {
        only = λ k d lt. only_more _ (Contains-get_or (arcs ++ map (with_ends side v) (row_at side core v.0)) k d lt);
        each = each_more;
        once =
            AllPairs-append (λ (arc other : UpDown). ends_of arc ≢ ends_of other) arcs (map (with_ends side v) (row_at side core v.0)) done.once once_new once_both;
      }

-- in another order

keys_apart : (xs : List UpDown) (x : UpDown) → AllPairs (λ (arc other : UpDown). ends_of arc ≢ ends_of other) xs → AllPairs (λ (k l : ℕ). k ≢ l) (map ends_of xs)
keys_apart xs x apart i j d before lt =
    let j_low : j < length xs = omega (arith, lt, length-map xs ends_of) in
    λ e. apart i j x before j_low (sym (get_or-map ends_of xs i x d (omega (arith, before, j_low))) ∙ e ∙ get_or-map ends_of xs j x d j_low)

arcs_apart : (xs : List UpDown) → AllPairs (λ (k l : ℕ). k ≢ l) (map ends_of xs) → AllPairs (λ (arc other : UpDown). ends_of arc ≢ ends_of other) xs
arcs_apart xs apart i j d before lt =
    λ e. apart i j (ends_of d) before (omega (arith, lt, length-map xs ends_of))
    (get_or-map ends_of xs i d (ends_of d) (omega (arith, before, lt)) ∙ e ∙ sym (get_or-map ends_of xs j d (ends_of d) lt))

no_arc : UpDown
no_arc = record { from = record { 0 = 0 }; to = record { 0 = 0 }; seconds = 0; middle = record { 0 = 0 } }

eqb_flips : (x y : ℕ) → (x == y) ≡ (y == x)
eqb_flips x y = elim (cases_eq x y) [
  | inl e ↦ eq-eqb x y e ∙ sym (eq-eqb y x (sym e))
  | inr ne ↦ ne_eqb x y ne ∙ sym (ne_eqb y x (λ e. ne (sym e)))
]

keys_distinct : (xs ys : List UpDown) → IsPermutation xs ys → AllPairs (λ (arc other : UpDown). ends_of arc ≢ ends_of other) xs → IsDistinct (λ (x y : ℕ). x == y) (map ends_of ys)
keys_distinct xs ys moved once =
    IsDistinct-IsPermutation (λ (x y : ℕ). x == y) eqb_flips (map ends_of xs) (map ends_of ys) (IsPermutation-map ends_of xs ys moved)
    (IsDistinct-from_AllPairs Decides-eqb (map ends_of xs) (keys_apart xs no_arc once))

pub AreArcsOf-permutation : (side : Side) (core : Contraction) (n : ℕ) (xs ys : List UpDown) → IsPermutation xs ys → AreArcsOf side core n xs → AreArcsOf side core n ys
AreArcsOf-permutation side core n xs ys moved are =
    record {
      only = All-permutation (IsArcOf side core n) xs ys moved are.only;
      each = λ v half one low c. Contains-permutation xs ys (with_ends side v half) moved (are.each v half one low c);
      once = arcs_apart ys (AllPairs-from_IsDistinct Decides-eqb (map ends_of ys) (keys_distinct xs ys moved are.once));
    }

arc_low : (side : Side) (core : Contraction) (rows : AreRows side core) (arc : UpDown) → IsArcOf side core core.nodes arc → arc.to.0 < 4294967296
arc_low Up core rows arc is = let e : arc.to ≡ is.half.to = ap (λ (x : UpDown). x.to) is.is in omega (arith, rows.ends is.node is.half is.stands, rows.few, ap (λ (v : NodeNo). v.0) e)
arc_low Down core rows arc is = let e : arc.to ≡ is.node = ap (λ (x : UpDown). x.to) is.is in omega (arith, is.low, rows.few, ap (λ (v : NodeNo). v.0) e)

before_from_keys : (arc other : UpDown) → arc.to.0 < 4294967296 → other.to.0 < 4294967296 → ends_of arc < ends_of other → IsBefore arc other
before_from_keys arc other arc_low other_low lt =
    elim (cases_lt arc.from.0 other.from.0) [
      | inl less ↦ inl less
      | inr ge ↦ inr (omega (arith, ge, lt, other_low), omega (arith, ge, lt, other_low))
    ]

pub in_order_from_keys : (side : Side) (core : Contraction) → AreRows side core → (xs ys : List UpDown) → IsPermutation xs ys → AreArcsOf side core core.nodes xs → IsNonDecreasingBy ends_of ys
    → AllAdjacentBelow IsBefore ys (length ys)
in_order_from_keys side core rows xs ys moved are sorted k d lt =
    let rise : IsNonDecreasing (map ends_of ys) =
    λ i j e le low.
    let j_low : j < length ys = omega (arith, low, length-map ys ends_of) in
    let i_is = get_or-map ends_of ys i no_arc e (omega (arith, le, j_low)) in
    let j_is = get_or-map ends_of ys j no_arc e j_low in
    omega (arith, sorted i j no_arc le j_low, i_is, j_is) in
    let strict : IsStrictlyIncreasing (map ends_of ys) = IsStrictlyIncreasing-from_distinct (map ends_of ys) rise (keys_distinct xs ys moved are.once) in
    let after = AreArcsOf-permutation side core core.nodes xs ys moved are in
    let here : IsArcOf side core core.nodes (slice_index_or ys k d) = after.only k d (omega (arith, lt)) in
    let next : IsArcOf side core core.nodes (slice_index_or ys (k + 1) d) = after.only (k + 1) d lt in
    let step = strict k (omega (arith, lt, length-map ys ends_of)) in
    before_from_keys (slice_index_or ys k d) (slice_index_or ys (k + 1) d) (arc_low side core rows (slice_index_or ys k d) here)
    (arc_low side core rows (slice_index_or ys (k + 1) d) next)
    (omega (arith, step, get_or-map ends_of ys k d 0 (omega (arith, lt)), get_or-map ends_of ys (k + 1) d 0 lt))
