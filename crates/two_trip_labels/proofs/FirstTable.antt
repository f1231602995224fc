-- The least arrivals of first rides.
use Rattle.std.proofs.Common.{◌≡◌, ℕ, zero, suc, ◌+◌, ◌-◌, ◌<◌, ◌≤◌, ◌⊎◌, inl, inr, List, length, sym, ap, subst, ◌∙◌, arith, Some}
use Rattle.std.proofs.lemmas.Option.{slice_get_within}
use Rattle.std.specs.Prelude.{slice_get, slice_index, IsTrue}
use Rattle.move_model.specs.declared.network.Network.{Network}
use Rattle.move_model.specs.declared.network.NodeNo.{NodeNo}
use Rattle.move_model.specs.declared.network.StopNo.{StopNo}
use Rattle.move_model.specs.declared.network.Call.{Call}
use Rattle.move_model.specs.Network.{IsNetwork}
use Rattle.route_split.specs.declared.place.Place.{Place}
use Rattle.route_split.specs.Route.{Route, arrivals_of, departures_of}
use Rattle.piece_laws.specs.Pieces.{IsFootDistance, IsOnFoot, HasFirst}
use Rattle.piece_laws.specs.Tables.{FirstStands}
use Rattle.piece_laws.proofs.Rides.{ride_later}
use Rattle.two_trip_rides.specs.First.{IsWalked, FirstClosed}
use Rattle.two_trip_rides.proofs.TimesLemmas.{stop_within, arrivals_length}
use Rattle.two_trip_labels.specs.First.{row_at}
use Rattle.two_trip_labels.specs.Closed.{last_second, Parts, ArePartsOf, Kept, walked_at, foot_to, IsClosed, IsSound}
use Rattle.two_trip_labels.proofs.RideRows.{ride_row}

-- what is held at a place is held at the later places
pub held_on : (route : Route) (foot : List ℕ) (z : ℕ) (held first : List ℕ) (i d row : ℕ) → FirstClosed route foot z held first → i + d + 1 < length route.places
    → slice_index held i ≤ row → slice_index held (i + d) ≤ row
held_on route foot z held first i zero row closed within low = subst (λ (k : ℕ). slice_index held k ≤ row) (omega arith) low
held_on route foot z held first i (suc d) row closed within low =
    let before = held_on route foot z held first i d row closed (omega arith) low in
    let next = closed.goes (i + d) (omega arith) in
    subst (λ (k : ℕ). slice_index held k ≤ row) (let e : i + d + 1 ≡ i + suc d = omega arith in e) (omega (arith, before, next))

module _ (n : Network) (q : NodeNo) (z g h : ℕ) (p : Parts) (k : Kept) (ok : IsNetwork n) (parts : ArePartsOf n q p) (low : h ≤ 1 + last_second)
    (closed : IsClosed n p z g h k) where
  -- walking is no later
  pub walked_on_foot : (x : StopNo) (a : ℕ) → x.0 < length n.stops → a < h → IsWalked p.foot z x a → IsOnFoot n q z x a
  walked_on_foot x a within early w =
      record { seconds = foot_to p x; foot = (parts.on_foot x within).real (omega (arith, w)); no_later = w }

  -- a row that can be boarded at a call is left at a later one
  row_left : (r i j row walk : ℕ) (route : Route) (on off : Place) → slice_get p.routes r ≡ Some route → slice_get route.places i ≡ Some on → slice_get route.places j ≡ Some off
      → IsTrue on.board → IsTrue off.alight → i < j → row < length route.trips → IsFootDistance n q on.stop walk
      → z + walk + n.buffer ≤ slice_index (departures_of route i) row → z + walk < g → z + walk < h → slice_index (arrivals_of route j) row < h
      → IsOnFoot n q z off.stop (slice_index (arrivals_of route j) row) ⊎ (walked_at k off.stop ≤ slice_index (arrivals_of route j) row)
  row_left r i j row walk route on off is at_on at_off may_on may_off before within foot in_time there soon early =
      let whole = parts.whole r route is in
      let on_in = stop_within (length n.stops) route i on whole at_on in
      let off_in = stop_within (length n.stops) route j off whole at_off in
      let places = slice_get_within route.places j off at_off in
      let same : foot_to p on.stop ≡ walk = (parts.on_foot on.stop on_in).enough walk foot (omega arith) in
      let rows = closed.rows.each r route is in
      let held = row_at k.first_rows r in
      let first = closed.caught r i row route on is at_on may_on (omega arith) within (omega (arith, there, same)) (omega (arith, same, in_time)) in
      let e : i + (j - (i + 1)) + 1 ≡ j = omega arith in
      let d : ℕ = i + (j - (i + 1)) in
      let last : slice_index held d ≤ row = held_on route p.foot z held k.first i (j - (i + 1)) row rows (omega (arith, e)) first in
      let at : slice_get route.places (d + 1) ≡ Some off = subst (λ (m : ℕ). slice_get route.places m ≡ Some off) (sym e) at_off in
      let rise : slice_index (arrivals_of route j) (slice_index held d) ≤ slice_index (arrivals_of route j) row =
      whole.arrive_in_order j places (slice_index held d) row last (omega (arith, arrivals_length (length n.stops) route whole j places)) in
      let P : ℕ → Type 0 = λ m. IsWalked p.foot z off.stop (slice_index (arrivals_of route m) (slice_index held d)) ⊎ (slice_index k.first off.stop.0 ≤ slice_index (arrivals_of route m) (slice_index held d)) in
      elim (subst P e (rows.leaves d off at may_off (omega arith))) [
        | inl w ↦ inl (walked_on_foot off.stop (slice_index (arrivals_of route j) row) off_in early (omega (arith, w, rise)))
        | inr l ↦ inr (omega (arith, l, rise, closed.walked_low off.stop off_in (omega (arith, l, rise, early))))
      ]

  pub first_enough : (x : StopNo) (a : ℕ) (f : HasFirst n q z x a) → z + f.walk < g → a < h → IsOnFoot n q z x a ⊎ (walked_at k x ≤ a)
  first_enough x a f there early =
      let row = ride_row n p.routes f.ride f.on f.off parts.trips f.is_ride in
      let later = ride_later n ok f.ride f.on f.off f.is_ride in
      let b = row.boards in
      let l = row.leaves in
      let arr : f.off.arr ≡ slice_index (arrivals_of row.route f.ride.alight) row.p = ap (λ (c : Call). c.arr) l.call_is in
      let dep : f.on.dep ≡ slice_index (departures_of row.route f.ride.board) row.p = ap (λ (c : Call). c.dep) b.call_is in
      let done = row_left row.r f.ride.board f.ride.alight row.p f.walk row.route b.place l.place row.is_route b.is_place l.is_place
      (subst (λ (c : Call). IsTrue c.board) b.call_is f.is_ride.may_board) (subst (λ (c : Call). IsTrue c.alight) l.call_is f.is_ride.may_alight)
      f.is_ride.forward (slice_get_within row.route.trips row.p f.ride.trip row.is_trip)
      (subst (λ (c : Call). IsFootDistance n q c.stop f.walk) b.call_is f.to_it)
      (omega (arith, f.in_time, dep)) there (omega (arith, f.in_time, later, f.left_by, early)) (omega (arith, arr, f.left_by, early)) in
      let at : l.place.stop ≡ x = sym (ap (λ (c : Call). c.stop) l.call_is) ∙ f.left_at in
      let by : slice_index (arrivals_of row.route f.ride.alight) row.p ≡ a = sym arr ∙ f.left_by in
      subst (λ (s : StopNo). IsOnFoot n q z s a ⊎ (walked_at k s ≤ a)) at
      (subst (λ (m : ℕ). IsOnFoot n q z l.place.stop m ⊎ (walked_at k l.place.stop ≤ m)) by done)

  pub first_table : h ≤ g → IsSound n q z p k → FirstStands n q z h (walked_at k)
  first_table far sound = record {
    real = sound.walked;
    enough = λ x a f early. first_enough x a f (omega (arith, far, early, f.in_time, f.left_by, ride_later n ok f.ride f.on f.off f.is_ride)) early;
  }
