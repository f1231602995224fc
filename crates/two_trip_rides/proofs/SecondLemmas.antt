-- Second rides on one route.
use Rattle.std.proofs.Common.{◌≡◌, ℕ, ◌+◌, ◌-◌, ◌<◌, ◌≤◌, ◌⊎◌, inl, inr, List, length, set, refl, sym, ap, subst, ◌∙◌, arith, Some, get_or-set_same, get_or-set_other, length-set}
use Rattle.std.proofs.lemmas.Bool.{cases_lt, cases_eq}
use Rattle.std.specs.Prelude.{slice_get, slice_index, IsTrue}
use Rattle.move_model.specs.declared.network.StopNo.{StopNo}
use Rattle.move_model.specs.declared.network.TripNo.{TripNo}
use Rattle.move_model.specs.Shortcut.{IsLess}
use Rattle.route_split.specs.declared.place.Place.{Place}
use Rattle.route_split.specs.Route.{Route, arrivals_of}
use Rattle.route_split.specs.Calls.{IsRouteOf, call_of}
use Rattle.pareto_laws.proofs.Calls.{stop_eq}
use Rattle.pareto_laws.proofs.Lexicographic.{IsLess-irreflexive, IsLess-trans}
use Rattle.piece_laws.specs.declared.labels.Ready.{Ready}
use Rattle.piece_laws.specs.declared.labels.Second.{Second}
use Rattle.piece_laws.specs.declared.labels.Held.{Held}
use Rattle.piece_laws.specs.Pieces.{second_entries, held_entries, HasSecond}
use Rattle.piece_laws.proofs.Entries.{not_less-trans}
use Rattle.two_trip_rides.specs.First.{Source}
use Rattle.two_trip_rides.specs.Second.{no_held, held_at, second_at, HeldFall, SecondsFall, IsCut, left_of, SecondClosed, IsSecondLeft, IsSecondRow, AreSecondRows, AreSeconds}

abbrev pub IsLow : Held → Held → Type 0
IsLow a b = ¬ (IsLess (held_entries b) (held_entries a))

pub low_self : (m : Held) → IsLow m m
low_self m l = IsLess-irreflexive (held_entries m) l

pub low_on : (a b c : Held) → IsLow a b → IsLow b c → IsLow a c
low_on a b c f g = not_less-trans (held_entries a) (held_entries b) (held_entries c) refl f g

pub low_less : (a b : Held) → IsLess (held_entries a) (held_entries b) → IsLow a b
low_less a b l k = IsLess-irreflexive (held_entries a) (IsLess-trans (held_entries a) (held_entries b) (held_entries a) l k)

pub held_none : (xs : List Held) → HeldFall xs xs
held_none xs = record { as_many = refl; each = λ k. low_self (held_at xs k) }

pub held_on : (xs ys zs : List Held) → HeldFall xs ys → HeldFall ys zs → HeldFall xs zs
held_on xs ys zs f g = record { as_many = g.as_many ∙ f.as_many; each = λ k. low_on (held_at zs k) (held_at ys k) (held_at xs k) (g.each k) (f.each k) }

pub seconds_none : (xs : List Second) → SecondsFall xs xs
seconds_none xs = record { as_many = refl; each = λ k. IsLess-irreflexive (second_entries (second_at xs k)) }

pub seconds_on : (xs ys zs : List Second) → SecondsFall xs ys → SecondsFall ys zs → SecondsFall xs zs
seconds_on xs ys zs f g = record {
  as_many = g.as_many ∙ f.as_many;
  each = λ k. not_less-trans (second_entries (second_at zs k)) (second_entries (second_at ys k)) (second_entries (second_at xs k)) refl (g.each k) (f.each k);
}

pub set_same : (xs : List Held) (i : ℕ) (v : Held) → i < length xs → held_at (set xs i v) i ≡ v
set_same xs i v within = get_or-set_same xs i v no_held within

pub set_other : (xs : List Held) (i : ℕ) (v : Held) (k : ℕ) → (k ≡ i → ⊥) → held_at (set xs i v) k ≡ held_at xs k
set_other xs i v k ne = rw get_or-set_other

-- a row written over a greater one
pub held_set : (xs : List Held) (i : ℕ) (v : Held) → i < length xs → IsLow v (held_at xs i) → HeldFall xs (set xs i v)
held_set xs i v within low = record {
  as_many = length-set xs i v;
  each = λ x. elim (cases_eq x i) [
    | inl e ↦ subst (λ (k : ℕ). IsLow (held_at (set xs i v) k) (held_at xs k)) (sym e) (subst (λ (m : Held). IsLow m (held_at xs i)) (sym (set_same xs i v within)) low)
    | inr ne ↦ subst (λ (m : Held). IsLow m (held_at xs x)) (sym (set_other xs i v x ne)) (low_self (held_at xs x))
  ];
}

-- a row that the passenger boards is left at a later call
pub second_leaves : (s : Source) (route : Route) (k j : ℕ) (m : Held) (off : Place) (trip : TripNo) → IsRouteOf s.network.trips route → IsSecondRow s route k m
    → slice_get route.trips m.row ≡ Some trip → k < j → slice_get route.places j ≡ Some off → IsTrue off.alight
    → HasSecond s.network s.node s.second off.stop (left_of (slice_index (arrivals_of route j) m.row) trip m)
second_leaves s route k j m off trip rows is is_trip later is_off may =
    let row = rows m.row trip is_trip in
    record {
      ride = record { trip = trip; board = is.at; alight = j };
      on = call_of route m.row is.at is.on;
      off = call_of route m.row j off;
      is_ride = record {
        forward = omega (arith, is.by);
        boards = (row.trip, row.is_trip, row.calls_are is.at is.on is.is_place);
        may_board = is.may_board;
        leaves = (row.trip, row.is_trip, row.calls_are j off is_off);
        may_alight = may;
      };
      boards = is.boards;
      in_time = is.in_time;
      left_at = refl;
      a2_is = refl;
      trip_is = refl;
      y_is = is.y_is;
    }

-- the places where the row is held
abbrev pub HeldFrom : ℕ → ℕ → Held → List Held → Type 0
HeldFrom call next m held = (k : ℕ) → call ≤ k → k + 1 < next → held_at held k ≡ m

-- the row is held at one more place
pub held_more : (call next : ℕ) (m : Held) (held : List Held) → call < next → next - 1 < length held → HeldFrom call next m held
    → HeldFrom call (next + 1) m (set held (next - 1) m)
held_more call next m held before within from k ge lt = elim (cases_eq k (next - 1)) [
  | inl e ↦ subst (λ (i : ℕ). held_at (set held (next - 1) m) i ≡ m) (sym e) (set_same _ _ _ within)
  | inr ne ↦ set_other held (next - 1) m k ne ∙ from k ge (omega arith)
]

module _ (route : Route) (foot : List ℕ) (z : ℕ) (places : List ℕ) (ready : List Ready) where
  -- what a row that is held says of the next call
  abbrev pub IsKnown : List Second → ℕ → Held → Type 0
  IsKnown best next m =
      (off : Place) (trip : TripNo) → slice_get route.places next ≡ Some off → IsTrue off.alight → slice_get route.trips m.row ≡ Some trip
      → IsCut foot z places ready off.stop (slice_index (arrivals_of route next) m.row)
      ⊎ ¬ (IsLess (second_entries (left_of (slice_index (arrivals_of route next) m.row) trip m)) (second_entries (second_at best off.stop.0)))

  known_falls : (best best' : List Second) (next : ℕ) (m : Held) → SecondsFall best best' → IsKnown best next m → IsKnown best' next m
  known_falls best best' next m falls known off trip at may is_trip = elim (known off trip at may is_trip) [
    | inl cut ↦ inl cut
    | inr low ↦ inr (not_less-trans (second_entries (second_at best' off.stop.0)) (second_entries (second_at best off.stop.0))
        (second_entries (left_of (slice_index (arrivals_of route next) m.row) trip m)) refl (falls.each off.stop.0) low)
  ]

  -- all is closed, but from the place before `next` on, where the row was boarded
  pub record OpenAt (call next : ℕ) (held : List Held) (best : List Second) : Type 0 where
    pub goes : (k : ℕ) → k + 2 < length route.places → (k + 2 ≡ next → k < call) → IsLow (held_at held (k + 1)) (held_at held k)
    pub leaves : (k : ℕ) → IsKnown best (k + 1) (held_at held k)

  pub opened : (call : ℕ) (held : List Held) (best : List Second) → SecondClosed route foot z places ready held best → OpenAt call (call + 1) held best
  opened call held best c = record { goes = λ k h _. c.goes k h; leaves = c.leaves }

  pub closed_where_held : (call next : ℕ) (m : Held) (held : List Held) (best : List Second) → HeldFrom call next m held
      → (next < length route.places → IsLow (held_at held (next - 1)) m) → OpenAt call next held best → SecondClosed route foot z places ready held best
  closed_where_held call next m held best from low part = record {
    goes = λ k h. elim (cases_eq (k + 2) next) [
      | inr ne ↦ part.goes k h (λ e. absurd (ne e))
      | inl e ↦ elim (cases_lt k call) [
        | inl lt ↦ part.goes k h (λ _. lt)
        | inr ge ↦
            let at : next - 1 ≡ k + 1 = omega arith in
            let l : IsLow (held_at held (k + 1)) m = subst (λ (i : ℕ). IsLow (held_at held i) m) at (low (omega arith)) in
            subst (λ (b : Held). IsLow (held_at held (k + 1)) b) (sym (from k ge (omega arith))) l
      ]
    ];
    leaves = part.leaves;
  }

  pub opened_more : (call next : ℕ) (m : Held) (held : List Held) (best best' : List Second) → call < next → next - 1 < length held
      → IsLow m (held_at held (next - 1)) → HeldFrom call next m held → SecondsFall best best' → IsKnown best' next m
      → OpenAt call next held best → OpenAt call (next + 1) (set held (next - 1) m) best'
  opened_more call next m held best best' before within less from falls known part = record { goes = goes; leaves = leaves }
    where
      here : held_at (set held (next - 1) m) (next - 1) ≡ m
      here = set_same held (next - 1) m within

      there : (k : ℕ) → (k ≡ next - 1 → ⊥) → held_at (set held (next - 1) m) k ≡ held_at held k
      there k ne = set_other held (next - 1) m k ne

      goes : (k : ℕ) → k + 2 < length route.places → (k + 2 ≡ next + 1 → k < call) → IsLow (held_at (set held (next - 1) m) (k + 1)) (held_at (set held (next - 1) m) k)
      goes k h some = elim (cases_eq (k + 1) next) [
        | inl e ↦ absurd (omega (arith, some (omega arith)))
        | inr ne ↦
            let a = there k (λ e. omega arith) in
            subst (λ (b : Held). IsLow (held_at (set held (next - 1) m) (k + 1)) b) (sym a) (elim (cases_eq (k + 2) next) [
              | inr far ↦ subst (λ (b : Held). IsLow b (held_at held k)) (sym (there (k + 1) (λ e. omega arith))) (part.goes k h (λ e. absurd (far e)))
              | inl near ↦
                  let at : next - 1 ≡ k + 1 = omega arith in
                  let b : held_at (set held (next - 1) m) (k + 1) ≡ m = subst (λ (i : ℕ). held_at (set held (next - 1) m) i ≡ m) at here in
                  let l : IsLow m (held_at held (k + 1)) = subst (λ (i : ℕ). IsLow m (held_at held i)) at less in
                  subst (λ (b : Held). IsLow b (held_at held k)) (sym b) (elim (cases_lt k call) [
                    | inl lt ↦ low_on m (held_at held (k + 1)) (held_at held k) l (part.goes k h (λ _. lt))
                    | inr ge ↦ subst (λ (b : Held). IsLow m b) (sym (from k ge (omega arith))) (low_self m)
                  ])
            ])
      ]

      leaves : (k : ℕ) → IsKnown best' (k + 1) (held_at (set held (next - 1) m) k)
      leaves k = elim (cases_eq (k + 1) next) [
        | inl e ↦
            let at : next - 1 ≡ k = omega arith in
            let b : held_at (set held (next - 1) m) k ≡ m = subst (λ (i : ℕ). held_at (set held (next - 1) m) i ≡ m) at here in
            subst (λ (i : ℕ). IsKnown best' i (held_at (set held (next - 1) m) k)) (sym e) (subst (λ (b : Held). IsKnown best' next b) (sym b) known)
        | inr ne ↦ subst (λ (b : Held). IsKnown best' (k + 1) b) (sym (there k (λ d. omega arith))) (known_falls best best' (k + 1) (held_at held k) falls (part.leaves k))
      ]

-- the rows that are held are boarded
pub rows_more : (s : Source) (route : Route) (call next : ℕ) (m : Held) (held : List Held) → call < next → next - 1 < length held → IsSecondRow s route call m
    → AreSecondRows s route held → AreSecondRows s route (set held (next - 1) m)
rows_more s route call next m held before within is old = record {
  each = λ k h low. elim (cases_eq k (next - 1)) [
    | inl e ↦
        let b : held_at (set held (next - 1) m) k ≡ m = subst (λ (i : ℕ). held_at (set held (next - 1) m) i ≡ m) (sym e) (set_same _ _ _ within) in
        subst (λ (p : Held). IsSecondRow s route k p) (sym b)
        (record { at = is.at; by = omega (arith, is.by); on = is.on; is_place = is.is_place; may_board = is.may_board; boards = is.boards; in_time = is.in_time; y_is = is.y_is })
    | inr ne ↦
        let a : held_at (set held (next - 1) m) k ≡ held_at held k = set_other held (next - 1) m k ne in
        subst (λ (p : Held). IsSecondRow s route k p) (sym a) (old.each k h (subst (λ (p : Held). p.row < length route.trips) a low))
  ];
}

-- a key that is put down is that of a second ride
pub seconds_more : (s : Source) (route : Route) (call next : ℕ) (m : Held) (best best' : List Second) → IsRouteOf s.network.trips route → IsSecondRow s route call m
    → call < next → length best' ≡ length best
    → ((x : ℕ) → (second_at best' x ≡ second_at best x) ⊎ IsSecondLeft route next m x (second_at best' x)) → AreSeconds s best → AreSeconds s best'
seconds_more s route call next m best best' rows is before many changed old = record {
  each = λ x low some. elim (changed x.0) [
    | inl same ↦ subst (λ (b : Second). HasSecond s.network s.node s.second x b) (sym same) (old.each x (omega arith) (omega (arith, ap (λ (k : Second). k.a2) same)))
    | inr new ↦
        let h = second_leaves s route call next m new.off new.trip rows is new.is_trip before new.is_off new.may_alight in
        subst (λ (b : Second). HasSecond s.network s.node s.second x b) new.key_is
        (subst (λ (y : StopNo). HasSecond s.network s.node s.second y (left_of (slice_index (arrivals_of route next) m.row) new.trip m)) (stop_eq new.off.stop x new.left_at) h)
  ];
}
