-- A ride of the network is one on a row of a route.
use Rattle.std.proofs.Common.{◌≡◌, ℕ, List, get_or, sym, subst, ◌∙◌, arith, Some}
use Rattle.std.proofs.lemmas.Option.{slice_get_within, slice_get-get_or, same_Some}
use Rattle.std.specs.Prelude.{slice_get}
use Rattle.move_model.specs.declared.network.Network.{Network}
use Rattle.move_model.specs.declared.network.TripNo.{TripNo}
use Rattle.move_model.specs.declared.network.Trip.{Trip}
use Rattle.move_model.specs.declared.network.Call.{Call}
use Rattle.move_model.specs.declared.journey.Ride.{Ride}
use Rattle.move_model.specs.Journey.{IsRide}
use Rattle.route_split.specs.declared.place.Place.{Place}
use Rattle.route_split.specs.Route.{Route}
use Rattle.route_split.specs.Calls.{HoldsTrips, IsRowOf, call_of}
use Rattle.route_split.specs.Routes.{place_of}

-- the k-th call of the p-th row
pub record IsCallAt (route : Route) (p k : ℕ) (call : Call) : Type 0 where
  pub place : Place
  pub is_place : slice_get route.places k ≡ Some place
  pub call_is : call ≡ call_of route p k place

pub record RideRow (routes : List Route) (ride : Ride) (on off : Call) : Type 0 where
  pub r : ℕ
  pub p : ℕ
  pub route : Route
  pub is_route : slice_get routes r ≡ Some route
  pub is_trip : slice_get route.trips p ≡ Some ride.trip
  pub boards : IsCallAt route p ride.board on
  pub leaves : IsCallAt route p ride.alight off

call_at : (trips : List Trip) (route : Route) (p : ℕ) (num : TripNo) (k : ℕ) (call : Call) (t : Trip) → IsRowOf trips route p num → slice_get trips num.0 ≡ Some t
    → slice_get t.calls k ≡ Some call → IsCallAt route p k call
call_at trips route p num k call t row is at =
    let same : row.trip ≡ t = same_Some row.trip t (sym row.is_trip ∙ is) in
    let at' : slice_get row.trip.calls k ≡ Some call = subst (λ (x : Trip). slice_get x.calls k ≡ Some call) (sym same) at in
    let place = get_or route.places k (place_of call) in
    let got = slice_get-get_or route.places k (place_of call) (omega (arith, slice_get_within row.trip.calls k call at', row.as_many)) in
    record { place = place; is_place = got; call_is = same_Some call (call_of route p k place) (sym at' ∙ row.calls_are k place got) }

pub ride_row : (n : Network) (routes : List Route) (ride : Ride) (on off : Call) → HoldsTrips n.trips routes → IsRide n ride on off → RideRow routes ride on off
ride_row n routes ride on off holds is =
    let row = holds.each_trip ride.trip (slice_get_within n.trips ride.trip.0 is.boards.0 is.boards.1) in
    let of = holds.rows_are row.r row.route row.is_route row.p ride.trip row.is_row in
    record {
      r = row.r;
      p = row.p;
      route = row.route;
      is_route = row.is_route;
      is_trip = row.is_row;
      boards = call_at n.trips row.route row.p ride.trip ride.board on is.boards.0 of is.boards.1 is.boards.2;
      leaves = call_at n.trips row.route row.p ride.trip ride.alight off is.leaves.0 of is.leaves.1 is.leaves.2;
    }
