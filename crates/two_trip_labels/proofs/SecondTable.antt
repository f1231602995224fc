-- The least keys of second rides.
use Rattle.std.proofs.Common.{◌≡◌, ℕ, zero, suc, ◌+◌, ◌-◌, ◌<◌, ◌≤◌, ◌⊎◌, inl, inr, List, [], ◌∷◌, length, get_or, refl, sym, ap, subst, ◌∙◌, arith, Some}
use Rattle.std.proofs.lemmas.Bool.{cases_lt}
use Rattle.std.proofs.lemmas.Option.{slice_get_within, slice_get-get_or, same_Some}
use Rattle.std.specs.Prelude.{slice_get, slice_index, IsTrue}
use Rattle.move_model.specs.declared.network.Network.{Network}
use Rattle.move_model.specs.declared.network.NodeNo.{NodeNo}
use Rattle.move_model.specs.declared.network.StopNo.{StopNo}
use Rattle.move_model.specs.declared.network.TripNo.{TripNo}
use Rattle.move_model.specs.declared.network.Call.{Call}
use Rattle.move_model.specs.Network.{IsNetwork}
use Rattle.move_model.specs.Shortcut.{IsLess, entry_of}
use Rattle.route_split.specs.declared.place.Place.{Place}
use Rattle.route_split.specs.Route.{Route, arrivals_of, departures_of}
use Rattle.piece_laws.specs.declared.labels.Ready.{Ready}
use Rattle.piece_laws.specs.declared.labels.Second.{Second}
use Rattle.piece_laws.specs.declared.labels.Held.{Held}
use Rattle.piece_laws.specs.Pieces.{IsOnFoot, IsCovered, HasReady, second_entries, held_entries}
use Rattle.piece_laws.specs.Tables.{IsRideClosed, SecondStands}
use Rattle.piece_laws.proofs.Rides.{ride_later}
use Rattle.piece_laws.proofs.Entries.{not_less-trans}
use Rattle.piece_laws.proofs.Covered.{covered_by_walk, covered_by_ride, covered_by_foot, covered_more}
use Rattle.piece_laws.proofs.Compose.{second_stands}
use Rattle.two_trip_rides.specs.Second.{held_at, left_of, IsCut, SecondClosed}
use Rattle.two_trip_rides.proofs.TimesLemmas.{stop_within, arrivals_length}
use Rattle.two_trip_labels.specs.Second.{held_row, boarded_with}
use Rattle.two_trip_labels.specs.Closed.{last_second, Parts, ArePartsOf, Kept, boarded_at, best_at, place_label, IsClosed, IsSound}
use Rattle.two_trip_labels.proofs.RideRows.{ride_row}
use Rattle.two_trip_labels.proofs.FirstTable.{walked_on_foot}
use Rattle.two_trip_labels.proofs.ReadyTable.{ready_table}

-- what is held at a place is held at the later places
held_on : (route : Route) (foot : List ℕ) (z : ℕ) (places : List ℕ) (ready : List Ready) (held : List Held) (best : List Second) (i d : ℕ) (entries : List ℕ) → length entries ≡ 5
    → SecondClosed route foot z places ready held best → i + d + 1 < length route.places
    → ¬ (IsLess entries (held_entries (held_at held i))) → ¬ (IsLess entries (held_entries (held_at held (i + d))))
held_on route foot z places ready held best i zero entries five closed within low = subst (λ (k : ℕ). ¬ (IsLess entries (held_entries (held_at held k)))) (omega arith) low
held_on route foot z places ready held best i (suc d) entries five closed within low =
    let before = held_on route foot z places ready held best i d entries five closed (omega arith) low in
    let next = closed.goes (i + d) (omega arith) in
    subst (λ (k : ℕ). ¬ (IsLess entries (held_entries (held_at held k)))) (let e : i + d + 1 ≡ i + suc d = omega arith in e)
    (not_less-trans (held_entries (held_at held (i + d + 1))) (held_entries (held_at held (i + d))) entries refl next before)

-- a lesser row of a route makes a lesser key
sooner : (a a' t t' : ℕ) (xs ys : List ℕ) → a' ≤ a → t' < t → ¬ (IsLess (a ∷ t ∷ xs) (a' ∷ t' ∷ ys))
sooner a a' t t' xs ys le g (inl h) = omega arith
sooner a a' t t' xs ys le g (inr (e, inl h)) = omega arith
sooner a a' t t' xs ys le g (inr (e, inr (f, h))) = omega arith

same_row : (a a' t t' r r' : ℕ) (xs ys : List ℕ) → a' ≤ a → r ≡ r' → t ≡ t' → ¬ (IsLess (r ∷ xs) (r' ∷ ys)) → ¬ (IsLess (a ∷ t ∷ xs) (a' ∷ t' ∷ ys))
same_row a a' t t' r r' xs ys le g k none (inl h) = omega arith
same_row a a' t t' r r' xs ys le g k none (inr (e, inl h)) = omega arith
same_row a a' t t' r r' xs ys le g k none (inr (e, inr (f, h))) = none (inr (g, h))

module _ (n : Network) (q : NodeNo) (z g h : ℕ) (p : Parts) (k : Kept) (ok : IsNetwork n) (parts : ArePartsOf n q p) (low : h ≤ 1 + last_second)
    (closed : IsClosed n p z g h k) (sound : IsSound n q z p k) where
  -- what is cut is covered
  cut_covered : (x : StopNo) (a : ℕ) → x.0 < length n.stops → a < h → IsCut p.foot z p.places k.ready x a → IsCovered n q z x a
  cut_covered x a within early (inl w) =
      let f = walked_on_foot n q z g h p k ok parts low closed x a within early w in
      covered_by_walk n q z x f.seconds a f.foot f.no_later
  cut_covered x a within early (inr l) =
      let r = sound.ready x within (omega arith) in
      let label : Ready = record { ready = (place_label p k x).ready; a1 = (place_label p k x).a1; c = entry_of r.from x } in
      let has : HasReady n q z x label = record { from = r.from; first = r.first; walk = r.walk; between = r.between; ready_is = r.ready_is; c_is = refl } in
      covered_by_ride n q z x label a has l

  abbrev pub Ridden : TripNo → StopNo → StopNo → ℕ → Type 0
  Ridden trip s t a =
      IsOnFoot n q z s (boarded_at k s).ready
      ⊎ (IsCovered n q z t a
      ⊎ ¬ (IsLess (a ∷ trip.0 ∷ (boarded_at k s).ready ∷ s.0 ∷ (boarded_at k s).a1 ∷ (boarded_at k s).c ∷ []) (second_entries (best_at k t))))

  row_ridden : (r i j row : ℕ) (route : Route) (on off : Place) (trip : TripNo) → slice_get p.routes r ≡ Some route → slice_get route.places i ≡ Some on → slice_get route.places j ≡ Some off
      → IsTrue on.board → IsTrue off.alight → i < j → slice_get route.trips row ≡ Some trip
      → (boarded_at k on.stop).ready + n.buffer ≤ slice_index (departures_of route i) row
      → slice_index (departures_of route i) row ≤ slice_index (arrivals_of route j) row → slice_index (arrivals_of route j) row < h
      → Ridden trip on.stop off.stop (slice_index (arrivals_of route j) row)
  row_ridden r i j row route on off trip is at_on at_off may_on may_off before is_trip in_time later early =
      let whole = parts.whole r route is in
      let on_in = stop_within (length n.stops) route i on whole at_on in
      let off_in = stop_within (length n.stops) route j off whole at_off in
      let places = slice_get_within route.places j off at_off in
      let within = slice_get_within route.trips row trip is_trip in
      let rows = closed.held_rows.each r route is in
      let held = held_row k.held r in
      let b : Ready = boarded_at k on.stop in
      let a : ℕ = slice_index (arrivals_of route j) row in
      elim (closed.ridden r i row route on is at_on may_on (omega arith) within in_time) [
        | inl w ↦ inl (walked_on_foot n q z g h p k ok parts low closed on.stop b.ready on_in (omega arith) w)
        | inr start ↦
            let e : i + (j - (i + 1)) + 1 ≡ j = omega arith in
            let d : ℕ = i + (j - (i + 1)) in
            let m : Held = held_at held d in
            let at = held_on route p.foot z p.places k.ready held k.best i (j - (i + 1)) (held_entries (boarded_with row on b)) refl rows (omega (arith, e)) start in
            let row_low : m.row ≤ row = first_low row m.row (b.ready ∷ on.stop.0 ∷ b.a1 ∷ b.c ∷ []) (m.label.ready ∷ m.y ∷ m.label.a1 ∷ m.label.c ∷ []) at in
            let trip' : TripNo = get_or route.trips m.row trip in
            let is_trip' = slice_get-get_or route.trips m.row trip (omega arith) in
            let a' : ℕ = slice_index (arrivals_of route j) m.row in
            let rise : a' ≤ a = whole.arrive_in_order j places m.row row row_low (omega (arith, arrivals_length (length n.stops) route whole j places)) in
            let off_at : slice_get route.places (d + 1) ≡ Some off = subst (λ (x : ℕ). slice_get route.places x ≡ Some off) (sym e) at_off in
            let P : ℕ → Type 0 = λ x. IsCut p.foot z p.places k.ready off.stop (slice_index (arrivals_of route x) m.row)
            ⊎ ¬ (IsLess (second_entries (left_of (slice_index (arrivals_of route x) m.row) trip' m)) (second_entries (best_at k off.stop))) in
            inr (elim (subst P e (rows.leaves d off trip' off_at may_off is_trip')) [
              | inl c ↦ inl (covered_more n q z off.stop a' a (cut_covered off.stop a' off_in (omega arith) c) rise)
              | inr l ↦ inr (not_less-trans (second_entries (best_at k off.stop)) (second_entries (left_of a' trip' m)) (a ∷ trip.0 ∷ b.ready ∷ on.stop.0 ∷ b.a1 ∷ b.c ∷ []) refl l
                  (elim (cases_lt m.row row) [
                    | inl g ↦ sooner a a' trip.0 trip'.0 (b.ready ∷ on.stop.0 ∷ b.a1 ∷ b.c ∷ []) (m.label.ready ∷ m.y ∷ m.label.a1 ∷ m.label.c ∷ []) rise
                        (parts.rising r route m.row row trip' trip is g is_trip' is_trip)
                    | inr g ↦
                        let same : row ≡ m.row = omega arith in
                        let t : trip ≡ trip' = same_Some trip trip' (sym is_trip ∙ ap (λ (x : ℕ). slice_get route.trips x) same ∙ is_trip') in
                        same_row a a' trip.0 trip'.0 row m.row (b.ready ∷ on.stop.0 ∷ b.a1 ∷ b.c ∷ []) (m.label.ready ∷ m.y ∷ m.label.a1 ∷ m.label.c ∷ []) rise same (ap (λ (x : TripNo). x.0) t) at
                  ])
                  )
            ])
      ]
    where
      first_low : (x y : ℕ) (xs ys : List ℕ) → ¬ (IsLess (x ∷ xs) (y ∷ ys)) → y ≤ x
      first_low x y xs ys none = elim (cases_lt x y) [ inl l ↦ absurd (none (inl l)) | inr g ↦ g ]

  pub ride_closed : IsRideClosed n q z h (boarded_at k) (best_at k)
  ride_closed ride on off is in_time soon =
      let row = ride_row n p.routes ride on off parts.trips is in
      let later = ride_later n ok ride on off is in
      let b = row.boards in
      let l = row.leaves in
      let eo : b.place.stop ≡ on.stop = sym (ap (λ (c : Call). c.stop) b.call_is) in
      let ef : l.place.stop ≡ off.stop = sym (ap (λ (c : Call). c.stop) l.call_is) in
      let arr : slice_index (arrivals_of row.route ride.alight) row.p ≡ off.arr = sym (ap (λ (c : Call). c.arr) l.call_is) in
      let dep : on.dep ≡ slice_index (departures_of row.route ride.board) row.p = ap (λ (c : Call). c.dep) b.call_is in
      let ready : (boarded_at k b.place.stop).ready ≡ (boarded_at k on.stop).ready = ap (λ (s : StopNo). (boarded_at k s).ready) eo in
      let done = row_ridden row.r ride.board ride.alight row.p row.route b.place l.place ride.trip row.is_route b.is_place l.is_place
      (subst (λ (c : Call). IsTrue c.board) b.call_is is.may_board) (subst (λ (c : Call). IsTrue c.alight) l.call_is is.may_alight)
      is.forward row.is_trip (omega (arith, in_time, dep, ready)) (omega (arith, later, dep, arr)) (omega (arith, arr, soon)) in
      let moved : Ridden ride.trip on.stop off.stop off.arr =
      subst (λ (s : StopNo). Ridden ride.trip s off.stop off.arr) eo
      (subst (λ (t : StopNo). Ridden ride.trip b.place.stop t off.arr) ef (subst (λ (a : ℕ). Ridden ride.trip b.place.stop l.place.stop a) arr done)) in
      elim moved [
        | inl f ↦ inl (covered_by_foot n q z on.stop ride on off f is refl in_time ok)
        | inr r ↦ r
      ]

  pub second_table : h ≤ g → SecondStands n q z h (best_at k)
  second_table far = second_stands n ok q z h (boarded_at k) (best_at k) (ready_table n q z g h p k ok parts low closed far sound) sound.best ride_closed
