-- From labels to journeys.
use Rattle.std.proofs.Common.{◌≡◌, ℕ, zero, suc, ◌+◌, ◌<◌, ◌≤◌, inl, inr, min, List, [], ◌∷◌, length, subst, sym, refl, ap, ◌∙◌, arith, Option, Some, None}
use Rattle.std.specs.Prelude.{slice_get, slice_index, IsTrue}
use Rattle.std.proofs.lemmas.Bool.{cases_lt}
use Rattle.std.proofs.lemmas.Option.{slice_get_within, same_Some}
use Rattle.move_model.specs.declared.network.Network.{Network}
use Rattle.move_model.specs.declared.network.StopNo.{StopNo}
use Rattle.move_model.specs.declared.network.TripNo.{TripNo}
use Rattle.move_model.specs.declared.network.Trip.{Trip}
use Rattle.move_model.specs.declared.network.Call.{Call}
use Rattle.move_model.specs.declared.journey.Ride.{Ride}
use Rattle.move_model.specs.Journey.{HasCall, IsRide}
use Rattle.move_model.specs.Listed.{HasEntry, HasTransfer, GoesOnListed, IsListed}
use Rattle.move_model.specs.Listed.GoesOnListed.{ends, boards}
use Rattle.move_model.specs.Listed.IsListed.{begins}
use Rattle.route_split.specs.declared.place.Place.{Place}
use Rattle.route_split.specs.Route.{Route, arrivals_of, departures_of}
use Rattle.route_split.specs.Table.{Table}
use Rattle.route_split.specs.Calls.{IsTableOf, IsRowOf, call_of}
use Rattle.raptor_rounds.specs.Ways.{Query, IsReady, Leaves}
use Rattle.raptor_rounds.specs.Ways.IsReady.{at_first, goes_on}
use Rattle.raptor_rounds.specs.Answers.{turned_onto}
use Rattle.raptor_rounds.specs.Labels.{Scanned}
use Rattle.raptor_rounds.specs.Least.{LeastReady, LeastLeft, Walked}

pub record RowCall (route : Route) (p k : ℕ) (call : Call) : Type 0 where
  pub place : Place
  pub is_place : slice_get route.places k ≡ Some place
  pub call_is : call ≡ call_of route p k place

-- a call of a trip is one of its row
pub row_call : (n : Network) (route : Route) (p : ℕ) (trip : TripNo) (k : ℕ) (call : Call) → IsRowOf n.trips route p trip → HasCall n trip k call → RowCall route p k call
row_call n route p trip k call row (t, is_trip, is_call) =
    let same : t ≡ row.trip = same_Some t row.trip (sym is_trip ∙ row.is_trip) in
    let at_row = subst (λ (v : Trip). slice_get v.calls k ≡ Some call) same is_call in
    let within : k < length route.places = omega (arith, slice_get_within row.trip.calls k call at_row, row.as_many) in
    go (slice_get route.places k) refl within at_row
  where
    go : (o : Option Place) → slice_get route.places k ≡ o → k < length route.places → slice_get row.trip.calls k ≡ Some call → RowCall route p k call
    go None e within at_row = absurd (none_within route.places k within e)
      where
        none_within : (xs : List Place) (i : ℕ) → i < length xs → slice_get xs i ≡ None → ⊥
        none_within [] i h e = omega arith
        none_within (x ∷ xs) zero h e = cc
        none_within (x ∷ xs) (suc i) h e = none_within xs i (omega arith) e
    go (Some place) e within at_row =
        record { place = place; is_place = e; call_is = same_Some call (call_of route p k place) (sym at_row ∙ row.calls_are k place e) }

-- after a whole scan no ride is left earlier than the labels say
pub left_least : (q : Query) (table : Table) (k : ℕ) (seconds left : List ℕ) (best best' : ℕ) → IsTableOf q.network table
    → ((r i : ℕ) (route : Route) → slice_get table.routes r ≡ Some route → Scanned route table.buffer seconds left best' i)
    → best' ≤ best → LeastReady q k seconds best → LeastLeft q k left best'
left_least q table k seconds left best best' is scanned falls ready = record {
  each = λ rides ride x a few leaves.
      let at = leaves.is_ride.boards in
      let row = is.holds.each_trip ride.trip (slice_get_within q.network.trips ride.trip.0 at.0 at.1) in
      let is_row = is.holds.rows_are row.r row.route row.is_route row.p ride.trip row.is_row in
      let on = row_call q.network row.route row.p ride.trip ride.board leaves.on is_row leaves.is_ride.boards in
      let off = row_call q.network row.route row.p ride.trip ride.alight leaves.off is_row leaves.is_ride.leaves in
      let was = ready.each rides leaves.on.stop leaves.ready few leaves.is_ready in
      let later = is.forward ride leaves.on leaves.off leaves.is_ride in
      let on_stop : slice_index seconds leaves.on.stop.0 ≡ slice_index seconds on.place.stop.0 = ap (λ (v : Call). slice_index seconds v.stop.0) on.call_is in
      let off_stop : slice_index left leaves.off.stop.0 ≡ slice_index left off.place.stop.0 = ap (λ (v : Call). slice_index left v.stop.0) off.call_is in
      let x_is : slice_index left leaves.off.stop.0 ≡ slice_index left x.0 = ap (λ (v : StopNo). slice_index left v.0) leaves.stop_is in
      let dep_is : leaves.on.dep ≡ slice_index (departures_of row.route ride.board) row.p = ap (λ (v : Call). v.dep) on.call_is in
      let arr_is : leaves.off.arr ≡ slice_index (arrivals_of row.route ride.alight) row.p = ap (λ (v : Call). v.arr) off.call_is in
      let may_on : IsTrue on.place.board = subst (λ (v : Call). IsTrue v.board) on.call_is leaves.is_ride.may_board in
      let may_off : IsTrue off.place.alight = subst (λ (v : Call). IsTrue v.alight) off.call_is leaves.is_ride.may_alight in
      elim (cases_lt leaves.ready (slice_index seconds leaves.on.stop.0)) [
        | inl pruned ↦ omega (arith, was, pruned, falls, later, leaves.in_time, leaves.second_is)
        | inr early ↦ elim (cases_lt (slice_index seconds on.place.stop.0) best') [
          | inl sooner ↦
              let bound = (scanned row.r ride.board row.route row.is_route).each ride.alight row.p on.place off.place leaves.is_ride.forward on.is_place off.is_place
              may_on may_off (slice_get_within row.route.trips row.p ride.trip row.is_row) sooner (omega (arith, early, on_stop, leaves.in_time, dep_is, is.buffer_is)) in
              omega (arith, bound, off_stop, x_is, arr_is, leaves.second_is)
          | inr past ↦ omega (arith, past, on_stop, early, later, leaves.in_time, leaves.second_is)
        ]
      ];
}

-- after the transfers no way is ready earlier than the labels say
pub ready_least : (q : Query) (k : ℕ) (seconds left : List ℕ) (best : ℕ) → LeastLeft q k left best → Walked q.list seconds left best
    → ((x : StopNo) (m : ℕ) → HasEntry q.first x m → slice_index seconds x.0 ≤ q.depart + m) → LeastReady q (suc k) seconds best
ready_least q k seconds left best least walked first = record { each = λ rides x r few is. go rides x r few is }
  where
    go : (rides : List Ride) (x : StopNo) (r : ℕ) → length rides ≤ suc k → IsReady q rides x r → min (slice_index seconds x.0) best ≤ r
    go rides x r few (at_first {m = m} entry sum) = omega (arith, first x m entry, sum)
    go rides x r few (goes_on {rides = before} {ride = ride} {on = on} {off = off} {s = s} {m = m} is_ready is_ride in_time transfer sum) =
        let was = least.each before ride off.stop off.arr (omega arith)
        (record { on = on; off = off; ready = s; is_ready = is_ready; is_ride = is_ride; in_time = in_time; stop_is = refl; second_is = refl }) in
        omega (arith, was, walked.each off.stop x m transfer, sum)

-- the last ride of a listed journey
pub record Ending (q : Query) (many arrive : ℕ) : Type 0 where
  pub rides : List Ride
  pub ride : Ride
  pub stop : StopNo
  pub second : ℕ
  pub walk : ℕ
  pub leaves : Leaves q rides ride stop second
  pub entry : HasEntry q.last stop walk
  pub sum_is : arrive ≡ second + walk
  pub count : length rides + 1 ≡ many

ending_of : (q : Query) (x : StopNo) (r : ℕ) (rest : List Ride) (arrive : ℕ) → GoesOnListed q.network q.last q.list x r rest arrive
    → (rides : List Ride) (ride : Ride) (many : ℕ) → Leaves q rides ride x r → length rides + 1 + length rest ≡ many → Ending q many arrive
ending_of q x r rest arrive (ends {m = m} entry) rides ride many leaves count = record {
  rides = rides;
  ride = ride;
  stop = x;
  second = r;
  walk = m;
  leaves = leaves;
  entry = entry;
  sum_is = refl;
  count = omega arith;
}
ending_of q x r rest arrive (boards {m = m} {ride = next} {rides = after} {on = on} {off = off} transfer is_ride in_time further) rides ride many leaves count =
    ending_of q off.stop off.arr after arrive further (ride ∷ rides) next many
    (record {
      on = on;
      off = off;
      ready = r + m;
      is_ready = goes_on leaves.is_ready leaves.is_ride leaves.in_time (subst (λ v. HasTransfer q.list v on.stop m) (sym leaves.stop_is) transfer) (omega (arith, leaves.second_is));
      is_ride = is_ride;
      in_time = in_time;
      stop_is = refl;
      second_is = refl;
    })
    (omega arith)

pub ending : (q : Query) (rides : List Ride) (arrive : ℕ) → IsListed q.network q.first q.last q.list q.depart rides arrive → Ending q (length rides) arrive
ending q rides arrive (begins {m = m} {ride = ride} {rides = after} {on = on} {off = off} entry is_ride in_time further) =
    ending_of q off.stop off.arr after arrive further [] ride (suc (length after))
    (record { on = on; off = off; ready = q.depart + m; is_ready = at_first entry refl; is_ride = is_ride; in_time = in_time; stop_is = refl; second_is = refl })
    (omega arith)

pub length-turned : (xs ys : List Ride) → length (turned_onto xs ys) ≡ length xs + length ys
length-turned [] ys = omega arith
length-turned (x ∷ xs) ys = omega (arith, length-turned xs (x ∷ ys))

listed_from : (q : Query) (rides : List Ride) (x : StopNo) (r : ℕ) → IsReady q rides x r → (ride : Ride) (on off : Call) (rest : List Ride) (arrive : ℕ) → on.stop ≡ x
    → IsRide q.network ride on off → r + q.network.buffer ≤ on.dep → GoesOnListed q.network q.last q.list off.stop off.arr rest arrive
    → IsListed q.network q.first q.last q.list q.depart (turned_onto rides (ride ∷ rest)) arrive
listed_from q rides x r (at_first {m = m} entry sum) ride on off rest arrive at is_ride in_time further =
    begins (subst (λ v. HasEntry q.first v m) (sym at) entry) is_ride (omega (arith, sum, in_time)) further
listed_from q rides x r (goes_on {rides = before} {ride = prev} {on = on'} {off = off'} {s = s} {m = m} is_ready is_ride' in_time' transfer sum) ride on off rest arrive at is_ride in_time further =
    listed_from q before on'.stop s is_ready prev on' off' (ride ∷ rest) arrive refl is_ride' in_time'
    (boards (subst (λ v. HasTransfer q.list off'.stop v m) (sym at) transfer) is_ride (omega (arith, sum, in_time)) further)

-- where a ride is left and the last row leads on, there is a listed journey
pub listed_of : (q : Query) (rides : List Ride) (ride : Ride) (x : StopNo) (a m : ℕ) → Leaves q rides ride x a → HasEntry q.last x m
    → IsListed q.network q.first q.last q.list q.depart (turned_onto rides (ride ∷ [])) (a + m)
listed_of q rides ride x a m leaves entry =
    listed_from q rides leaves.on.stop leaves.ready leaves.is_ready ride leaves.on leaves.off [] (a + m) refl leaves.is_ride leaves.in_time
    (subst (λ b. GoesOnListed q.network q.last q.list leaves.off.stop leaves.off.arr [] (b + m)) leaves.second_is
    (ends (subst (λ v. HasEntry q.last v m) (sym leaves.stop_is) entry)))
