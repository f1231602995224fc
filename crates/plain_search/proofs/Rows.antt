-- A row with a better way to one vertex.
use Rattle.std.proofs.Common.{◌≡◌, ◌≢◌, ℕ, zero, suc, ◌<◌, ◌≤◌, ◌⊎◌, List, [], ◌∷◌, length, get_or, sym, ◌∙◌, ap, subst, inl, inr, arith, Option, Some, None}
use Rattle.std.proofs.Math.ListN.{set, length-set, replicate}
use Rattle.std.specs.Prelude.{slice_get, Contains}
use Rattle.std.proofs.lemmas.Bool.{cases_lt, cases_eq}
use Rattle.std.proofs.lemmas.Option.{slice_get-get_or, slice_get_within, get_or_from_slice_get, same_Some}
use Rattle.std.proofs.lemmas.List.{get_or-set_same, get_or-set_other, get_or-replicate, length-replicate}
use Rattle.std.proofs.lemmas.List.Sums.{sum_by-set}
use Rattle.move_model.specs.declared.network.NodeNo.{NodeNo}
use Rattle.plain_search.specs.declared.way.Way.{Way}
use Rattle.plain_search.specs.Row.{Ways, IsWayTo, HasWayBy, NoLater, IsWholeWay, IsWhole, weight, weight_of}

pub node_eq : (a b : NodeNo) → a.0 ≡ b.0 → a ≡ b
node_eq a b e = ap (λ (k : ℕ). let v : NodeNo = record { 0 = k } in v) e

pub same_default : {X : Type 0} (xs : List X) (i : ℕ) (d e : X) → i < length xs → get_or xs i d ≡ get_or xs i e
same_default xs i d e within = get_or_from_slice_get xs i (get_or xs i e) d (slice_get-get_or xs i e within)

slice_get-set_same : {X : Type 0} (xs : List X) (i : ℕ) (x : X) → i < length xs → slice_get (set xs i x) i ≡ Some x
slice_get-set_same xs i x within =
    let same_length : length (set xs i x) ≡ length xs = length-set xs i x in
    slice_get-get_or (set xs i x) i x (omega arith) ∙ ap Some (get_or-set_same xs i x x within)

slice_get-set_other : {X : Type 0} (xs : List X) (i j : ℕ) (x y : X) → j ≢ i → slice_get (set xs i x) j ≡ Some y → slice_get xs j ≡ Some y
slice_get-set_other xs i j x y other is =
    let same_length : length (set xs i x) ≡ length xs = length-set xs i x in
    let within : j < length (set xs i x) = slice_get_within (set xs i x) j y is in
    let same : get_or (set xs i x) j y ≡ get_or xs j y = get_or-set_other xs i j x y other in
    slice_get-get_or xs j y (omega arith) ∙ ap Some (sym same ∙ get_or_from_slice_get (set xs i x) j y y is)

slice_get-set_kept : {X : Type 0} (xs : List X) (i j : ℕ) (x y : X) → j ≢ i → slice_get xs j ≡ Some y → slice_get (set xs i x) j ≡ Some y
slice_get-set_kept xs i j x y other is =
    let same_length : length (set xs i x) ≡ length xs = length-set xs i x in
    let within : j < length xs = slice_get_within xs j y is in
    let same : get_or (set xs i x) j y ≡ get_or xs j y = get_or-set_other xs i j x y other in
    slice_get-get_or (set xs i x) j y (omega arith) ∙ ap Some (same ∙ get_or_from_slice_get xs j y y is)

pub Contains-one : {X : Type 0} (x y : X) → Contains (x ∷ []) y → x ≡ y
Contains-one x y (zero, within, e) = e
Contains-one x y (suc k, within, e) = absurd (omega (arith, within))

pub by_later : {row : Ways} {v : NodeNo} {l m : ℕ} → HasWayBy row v l → l ≤ m → HasWayBy row v m
by_later h later = record { way = h.way; stands = h.stands; no_later = omega (arith, h.no_later) }

-- a place with no way by a second weighs more than that second
weight_of-none_by : (row : Ways) (v : NodeNo) (m : ℕ) (entry : Option Way) → slice_get row v.0 ≡ Some entry → (HasWayBy row v m → ⊥)
    → m < 18446744073709551616 → m < weight_of entry
weight_of-none_by row v m None is none small = small
weight_of-none_by row v m (Some way) is none small =
    elim (cases_lt m way.second) [
      | inl l ↦ l
      | inr h ↦ absurd (none (record { way = way; stands = is; no_later = h }))
    ]

module _ (row : Ways) (v : NodeNo) (way : Way) (within : v.0 < length row) (none : HasWayBy row v way.second → ⊥) where
  pub weight-set : way.second < 18446744073709551616 → weight (set row v.0 (Some way)) < weight row
  weight-set small =
      let less : way.second < weight_of (get_or row v.0 None) =
      weight_of-none_by row v way.second (get_or row v.0 None) (slice_get-get_or row v.0 None within) none small in
      omega (arith, sum_by-set weight_of row v.0 (Some way) None within)

  pub way_there : IsWayTo (set row v.0 (Some way)) v way
  way_there = slice_get-set_same row v.0 (Some way) within

  pub no_later-set : NoLater row (set row v.0 (Some way))
  no_later-set u m h = elim (cases_eq u.0 v.0) [
    | inl e ↦
        let same : u ≡ v = node_eq u v e in
        let there : HasWayBy row v m = subst (λ w. HasWayBy row w m) same h in
        subst (λ w. HasWayBy (set row v.0 (Some way)) w m) (sym same)
        (record {
          way = way;
          stands = way_there;
          no_later = elim (cases_lt way.second m) [
            | inl l ↦ omega arith
            | inr g ↦ absurd (none (by_later there g))
          ];
        })
    | inr ne ↦ record { way = h.way; stands = slice_get-set_kept row v.0 u.0 (Some way) (Some h.way) ne h.stands; no_later = h.no_later }
  ]

  -- a way of the new row is the better one or an old one
  pub ways-set : (u : NodeNo) (w : Way) → IsWayTo (set row v.0 (Some way)) u w → ((u ≡ v) × (w ≡ way)) ⊎ IsWayTo row u w
  ways-set u w is = elim (cases_eq u.0 v.0) [
    | inl e ↦
        let same : u ≡ v = node_eq u v e in
        let stands : IsWayTo (set row v.0 (Some way)) v w = subst (λ x. IsWayTo (set row v.0 (Some way)) x w) same is in
        inl (same, same_Some _ _ (same_Some _ _ (sym stands ∙ way_there)))
    | inr ne ↦ inr (slice_get-set_other row v.0 u.0 (Some way) (Some w) ne is)
  ]

  pub whole-set : IsWhole row → IsWholeWay (set row v.0 (Some way)) way → IsWhole (set row v.0 (Some way))
  whole-set whole new =
      record {
        few = let e : length (set row v.0 (Some way)) ≡ length row = length-set row v.0 (Some way) in omega (arith, whole.few);
        ways = λ u w is. elim (ways-set u w is) [
          | inl same ↦ subst (λ x. IsWholeWay (set row v.0 (Some way)) x) (sym same.1) new
          | inr old ↦
              let kept = whole.ways u w old in
              record {
                bounded = kept.bounded;
                no_vertex_twice = kept.no_vertex_twice;
                passes = λ x on. no_later-set x w.second (kept.passes x on);
              }
        ];
      }

  -- the better way may stand at its vertex alone
  pub whole-alone : way.walk ≡ v ∷ [] → way.second ≤ 4294967295 → IsWholeWay (set row v.0 (Some way)) way
  whole-alone walk_is small =
      record {
        bounded = omega (arith, ap (λ (vs : List NodeNo). length vs) walk_is);
        no_vertex_twice = λ i j d before inside. absurd (omega (arith, before, inside, ap (λ (vs : List NodeNo). length vs) walk_is));
        passes = λ u on.
            subst (λ x. HasWayBy (set row v.0 (Some way)) x way.second) (Contains-one v u (subst (λ vs. Contains vs u) walk_is on))
            (record { way = way; stands = way_there; no_later = omega arith });
      }

-- a row with no way

pub length-none : (k : ℕ) → length (let none : Option Way = None in replicate k none) ≡ k
length-none k = length-replicate k (let none : Option Way = None in none)

pub no_way : (k : ℕ) (v : NodeNo) (way : Way) → IsWayTo (replicate k None) v way → ⊥
no_way k v way is =
    let within : v.0 < length (replicate k (let none : Option Way = None in none)) = slice_get_within (replicate k None) v.0 (Some way) is in
    no_entry (sym (get_or-replicate k v.0 None None (omega (arith, length-none k))) ∙ get_or_from_slice_get (replicate k None) v.0 (Some way) None is)
  where
    no_entry : None ≡ Some way → ⊥
    no_entry e = cc

pub whole-none : (k : ℕ) → k ≤ 4294967296 → IsWhole (replicate k None)
whole-none k few =
    record {
      few = omega (arith, few, length-none k);
      ways = λ v way is. absurd (no_way k v way is);
    }
