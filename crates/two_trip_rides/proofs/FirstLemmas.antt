-- First rides on one route.
use Rattle.std.proofs.Common.{◌≡◌, ℕ, ◌+◌, ◌-◌, ◌<◌, ◌≤◌, ◌⊎◌, inl, inr, List, length, get_or, set, refl, sym, subst, ◌∙◌, arith, Some, get_or-set_same, get_or-set_other, length-set}
use Rattle.std.proofs.lemmas.Bool.{cases_lt, cases_eq}
use Rattle.std.proofs.lemmas.Option.{slice_get_within, slice_get-get_or}
use Rattle.std.specs.Prelude.{slice_get, slice_index, IsTrue}
use Rattle.move_model.specs.declared.network.StopNo.{StopNo}
use Rattle.move_model.specs.declared.network.TripNo.{TripNo}
use Rattle.route_split.specs.declared.place.Place.{Place}
use Rattle.route_split.specs.Route.{Route, IsRoute, arrivals_of}
use Rattle.route_split.specs.Calls.{IsRouteOf, call_of}
use Rattle.pareto_laws.proofs.Calls.{stop_eq}
use Rattle.two_trip_rides.proofs.TimesLemmas.{arrivals_length}
use Rattle.piece_laws.specs.Pieces.{HasFirst}
use Rattle.two_trip_rides.specs.First.{Source, IsWalked, Falls, FirstClosed, IsFirstRow, AreFirstRows, AreFirst, IsLeft, IsOwnRow, OwnOn}

pub falls_none : (xs : List ℕ) → Falls xs xs
falls_none xs = record { as_many = refl; each = λ x. omega arith }

pub falls_on : (xs ys zs : List ℕ) → Falls xs ys → Falls ys zs → Falls xs zs
falls_on xs ys zs f g = record { as_many = g.as_many ∙ f.as_many; each = λ x. omega (arith, f.each x, g.each x) }

pub set_same : (xs : List ℕ) (i v : ℕ) → i < length xs → get_or (set xs i v) i 0 ≡ v
set_same xs i v within = get_or-set_same xs i v 0 within

pub set_other : (xs : List ℕ) (i v k : ℕ) → (k ≡ i → ⊥) → get_or (set xs i v) k 0 ≡ get_or xs k 0
set_other xs i v k ne = rw get_or-set_other

-- a number written over a greater one
pub falls_set : (xs : List ℕ) (i v : ℕ) → i < length xs → v ≤ slice_index xs i → Falls xs (set xs i v)
falls_set xs i v within low = record {
  as_many = length-set xs i v;
  each = λ x. elim (cases_eq x i) [
    | inl e ↦ subst (λ (k : ℕ). get_or (set xs i v) k 0 ≤ get_or xs k 0) (sym e) (rw (get_or-set_same) low)
    | inr ne ↦ rw (get_or-set_other) (omega arith)
  ];
}

-- a row that the passenger boards is left at a later call
pub first_leaves : (s : Source) (route : Route) (k p j : ℕ) (off : Place) → IsRouteOf s.network.trips route → IsFirstRow s route k p → p < length route.trips
    → k < j → slice_get route.places j ≡ Some off → IsTrue off.alight
    → HasFirst s.network s.node s.second off.stop (slice_index (arrivals_of route j) p)
first_leaves s route k p j off rows is within later is_off may =
    let none : TripNo = record { 0 = 0 } in
    let trip = get_or route.trips p none in
    let row = rows p trip (slice_get-get_or route.trips p none within) in
    record {
      ride = record { trip = trip; board = is.at; alight = j };
      on = call_of route p is.at is.on;
      off = call_of route p j off;
      is_ride = record {
        forward = omega (arith, is.by);
        boards = (row.trip, row.is_trip, row.calls_are is.at is.on is.is_place);
        may_board = is.may_board;
        leaves = (row.trip, row.is_trip, row.calls_are j off is_off);
        may_alight = may;
      };
      walk = is.walk;
      to_it = is.to_it;
      in_time = is.in_time;
      left_at = refl;
      left_by = refl;
    }

-- all is closed, but from the place before `next` on, where the row was boarded
pub record OpenAt (route : Route) (foot : List ℕ) (z call next : ℕ) (held first : List ℕ) : Type 0 where
  pub goes : (k : ℕ) → k + 2 < length route.places → (k + 2 ≡ next → k < call) → slice_index held (k + 1) ≤ slice_index held k
  pub leaves : (k : ℕ) (off : Place) → slice_get route.places (k + 1) ≡ Some off → IsTrue off.alight → slice_index held k < length route.trips
      → IsWalked foot z off.stop (slice_index (arrivals_of route (k + 1)) (slice_index held k))
      ⊎ (slice_index first off.stop.0 ≤ slice_index (arrivals_of route (k + 1)) (slice_index held k))

pub opened : (route : Route) (foot : List ℕ) (z call : ℕ) (held first : List ℕ) → FirstClosed route foot z held first → OpenAt route foot z call (call + 1) held first
opened route foot z call held first c = record { goes = λ k h _. c.goes k h; leaves = c.leaves }

-- the places where the row is held
abbrev pub HeldFrom : ℕ → ℕ → ℕ → List ℕ → Type 0
HeldFrom call next row held = (k : ℕ) → call ≤ k → k + 1 < next → slice_index held k ≡ row

pub closed_where_held : (route : Route) (foot : List ℕ) (z call next row : ℕ) (held first : List ℕ) → HeldFrom call next row held
    → (next < length route.places → slice_index held (next - 1) ≤ row) → OpenAt route foot z call next held first → FirstClosed route foot z held first
closed_where_held route foot z call next row held first from low part = record {
  goes = λ k h. elim (cases_eq (k + 2) next) [
    | inr ne ↦ part.goes k h (λ e. absurd (ne e))
    | inl e ↦ elim (cases_lt k call) [
      | inl lt ↦ part.goes k h (λ _. lt)
      | inr ge ↦
          let at : next - 1 ≡ k + 1 = omega arith in
          let l : slice_index held (k + 1) ≤ row = subst (λ (i : ℕ). slice_index held i ≤ row) at (low (omega arith)) in
          omega (arith, l, from k ge (omega arith))
    ]
  ];
  leaves = part.leaves;
}

-- the row is held at one more place
pub held_more : (call next row : ℕ) (held : List ℕ) → call < next → next - 1 < length held → HeldFrom call next row held
    → HeldFrom call (next + 1) row (set held (next - 1) row)
held_more call next row held before within from k ge lt = elim (cases_eq k (next - 1)) [
  | inl e ↦ subst (λ (i : ℕ). get_or (set held (next - 1) row) i 0 ≡ row) (sym e) (set_same _ _ _ within)
  | inr ne ↦ set_other held (next - 1) row k ne ∙ from k ge (omega arith)
]

pub opened_more : (route : Route) (foot : List ℕ) (z call next row : ℕ) (held first first' : List ℕ) → call < next → next - 1 < length held
    → row < slice_index held (next - 1) → HeldFrom call next row held → Falls first first'
    → ((off : Place) → slice_get route.places next ≡ Some off → IsTrue off.alight
    → IsWalked foot z off.stop (slice_index (arrivals_of route next) row) ⊎ (slice_index first' off.stop.0 ≤ slice_index (arrivals_of route next) row))
    → OpenAt route foot z call next held first → OpenAt route foot z call (next + 1) (set held (next - 1) row) first'
opened_more route foot z call next row held first first' before within less from falls known part = record {
  goes = λ k h some. goes k h some;
  leaves = λ k off at may low. leaves k off at may low;
}
  where
    held' : List ℕ
    held' = set held (next - 1) row

    here : slice_index (set held (next - 1) row) (next - 1) ≡ row
    here = set_same held (next - 1) row within

    there : (k : ℕ) → (k ≡ next - 1 → ⊥) → slice_index (set held (next - 1) row) k ≡ slice_index held k
    there k ne = set_other held (next - 1) row k ne

    goes : (k : ℕ) → k + 2 < length route.places → (k + 2 ≡ next + 1 → k < call) → slice_index (set held (next - 1) row) (k + 1) ≤ slice_index (set held (next - 1) row) k
    goes k h some = elim (cases_eq (k + 1) next) [
      | inl e ↦ absurd (omega (arith, some (omega arith)))
      | inr ne ↦ elim (cases_eq (k + 2) next) [
        | inr far ↦ let a = there k (λ e. omega arith) in let b = there (k + 1) (λ e. omega arith) in omega (arith, a, b, part.goes k h (λ e. absurd (far e)))
        | inl near ↦
            let at : next - 1 ≡ k + 1 = omega arith in
            let b : slice_index (set held (next - 1) row) (k + 1) ≡ row = subst (λ (i : ℕ). slice_index (set held (next - 1) row) i ≡ row) at here in
            let a = there k (λ e. omega arith) in
            let l : row < slice_index held (k + 1) = subst (λ (i : ℕ). row < slice_index held i) at less in
            elim (cases_lt k call) [
              | inl lt ↦ omega (arith, a, b, l, part.goes k h (λ _. lt))
              | inr ge ↦ omega (arith, a, b, from k ge (omega arith))
            ]
      ]
    ]

    leaves : (k : ℕ) (off : Place) → slice_get route.places (k + 1) ≡ Some off → IsTrue off.alight → slice_index (set held (next - 1) row) k < length route.trips
        → IsWalked foot z off.stop (slice_index (arrivals_of route (k + 1)) (slice_index (set held (next - 1) row) k))
        ⊎ (slice_index first' off.stop.0 ≤ slice_index (arrivals_of route (k + 1)) (slice_index (set held (next - 1) row) k))
    leaves k off at may low = elim (cases_eq (k + 1) next) [
      | inl e ↦
          let b : slice_index (set held (next - 1) row) k ≡ row = subst (λ (i : ℕ). slice_index (set held (next - 1) row) i ≡ row) (let d : next - 1 ≡ k = omega arith in d) here in
          let is : slice_get route.places next ≡ Some off = subst (λ (i : ℕ). slice_get route.places i ≡ Some off) e at in
          let P : ℕ → ℕ → Type 0 = λ i p. IsWalked foot z off.stop (slice_index (arrivals_of route i) p) ⊎ (slice_index first' off.stop.0 ≤ slice_index (arrivals_of route i) p) in
          subst (λ (i : ℕ). P i (slice_index (set held (next - 1) row) k)) (sym e) (subst (λ (p : ℕ). P next p) (sym b) (known off is may))
      | inr ne ↦
          let a = there k (λ d. omega arith) in
          let P : ℕ → Type 0 = λ p. IsWalked foot z off.stop (slice_index (arrivals_of route (k + 1)) p) ⊎ (slice_index first' off.stop.0 ≤ slice_index (arrivals_of route (k + 1)) p) in
          subst P (sym a) (elim (part.leaves k off at may (subst (λ (p : ℕ). p < length route.trips) a low)) [
            | inl w ↦ inl w
            | inr l ↦ inr (omega (arith, l, falls.each off.stop.0))
          ])
    ]

-- the rows that are held are boarded
pub rows_more : (s : Source) (route : Route) (call next row : ℕ) (held : List ℕ) → call < next → next - 1 < length held → IsFirstRow s route call row
    → AreFirstRows s route held → AreFirstRows s route (set held (next - 1) row)
rows_more s route call next row held before within is old = record {
  each = λ k h low. elim (cases_eq k (next - 1)) [
    | inl e ↦
        let b : slice_index (set held (next - 1) row) k ≡ row = subst (λ (i : ℕ). slice_index (set held (next - 1) row) i ≡ row) (sym e) (set_same _ _ _ within) in
        subst (λ (p : ℕ). IsFirstRow s route k p) (sym b) (record { at = is.at; by = omega (arith, is.by); on = is.on; is_place = is.is_place; may_board = is.may_board; walk = is.walk; to_it = is.to_it; in_time = is.in_time })
    | inr ne ↦
        let a : slice_index (set held (next - 1) row) k ≡ slice_index held k = set_other held (next - 1) row k ne in
        subst (λ (p : ℕ). IsFirstRow s route k p) (sym a) (old.each k h (subst (λ (p : ℕ). p < length route.trips) a low))
  ];
}

-- an arrival that is put down is that of a first ride
pub first_more : (s : Source) (route : Route) (call next row : ℕ) (first first' : List ℕ) → IsRouteOf s.network.trips route → IsFirstRow s route call row
    → row < length route.trips → call < next → length first' ≡ length first
    → ((x : ℕ) → (slice_index first' x ≡ slice_index first x) ⊎ IsLeft route next row x (slice_index first' x)) → AreFirst s first → AreFirst s first'
first_more s route call next row first first' rows is within before many changed old = record {
  each = λ x low some. elim (changed x.0) [
    | inl same ↦ subst (λ (b : ℕ). HasFirst s.network s.node s.second x b) (sym same) (old.each x (omega arith) (omega (arith, same)))
    | inr new ↦
        let h = first_leaves s route call row next new.off rows is within before new.is_off new.may_alight in
        subst (λ (b : ℕ). HasFirst s.network s.node s.second x b) new.left_by
        (subst (λ (y : StopNo). HasFirst s.network s.node s.second y (slice_index (arrivals_of route next) row)) (stop_eq new.off.stop x new.left_at) h)
  ];
}

-- what the first row of a ride from the start itself leaves is the least
pub own_least : (stops : ℕ) (route : Route) (k d row : ℕ) (own : List ℕ) → IsRoute stops route → row < length route.trips
    → ((p : ℕ) → IsOwnRow route k d p → row ≤ p)
    → ((to : ℕ) (off : Place) → k < to → slice_get route.places to ≡ Some off → IsTrue off.alight → slice_index own off.stop.0 ≤ slice_index (arrivals_of route to) row)
    → OwnOn route k d own
own_least stops route k d row own whole within least known = record {
  each = λ x a r.
      let l = r.is_left.is_left in
      let at = known r.is_left.to l.off r.is_left.later l.is_off l.may_alight in
      let rise = whole.arrive_in_order r.is_left.to (slice_get_within route.places r.is_left.to l.off l.is_off) row r.row (least r.row r.is_own)
      (omega (arith, r.is_own.is_row, arrivals_length stops route whole r.is_left.to (slice_get_within route.places r.is_left.to l.off l.is_off))) in
      subst (λ (y : ℕ). slice_index own y ≤ a) l.left_at (omega (arith, at, rise, l.left_by));
}
