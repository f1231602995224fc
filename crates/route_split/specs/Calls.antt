-- Which trips a timetable holds.
--     call_of route p k place       the call of the route's p-th trip at its k-th place
--     IsRowOf trips route p no      the route's p-th row is this trip, with its calls and seconds
--     HoldsTrips trips routes       each row is its trip, and each trip has a row
--     IsTableOf n table             the timetable was made from the network's trips
use Rattle.std.specs.Prelude.{◌≡◌, ℕ, ◌<◌, ◌≤◌, List, length, slice_get, slice_index, Some}
use Rattle.move_model.specs.declared.network.Network.{Network}
use Rattle.move_model.specs.declared.network.TripNo.{TripNo}
use Rattle.move_model.specs.declared.network.Trip.{Trip}
use Rattle.move_model.specs.declared.network.Call.{Call}
use Rattle.move_model.specs.declared.journey.Ride.{Ride}
use Rattle.move_model.specs.Journey.{IsRide}
use Rattle.route_split.specs.declared.place.Place.{Place}
use Rattle.route_split.specs.Route.{Route, arrivals_of, departures_of}
use Rattle.route_split.specs.Table.{Table}

abbrev pub call_of : Route → ℕ → ℕ → Place → Call
call_of route p k place = record {
  stop = place.stop;
  arr = slice_index (arrivals_of route k) p;
  dep = slice_index (departures_of route k) p;
  board = place.board;
  alight = place.alight;
}

pub record IsRowOf (trips : List Trip) (route : Route) (p : ℕ) (no : TripNo) : Type 0 where
  pub trip : Trip
  pub is_trip : slice_get trips no.0 ≡ Some trip
  pub as_many : length trip.calls ≡ length route.places
  pub calls_are : (k : ℕ) (place : Place) → slice_get route.places k ≡ Some place → slice_get trip.calls k ≡ Some (call_of route p k place)

-- each row of the route is its trip
abbrev pub IsRouteOf : List Trip → Route → Type 0
IsRouteOf trips route = (p : ℕ) (no : TripNo) → slice_get route.trips p ≡ Some no → IsRowOf trips route p no

pub record HasRow (routes : List Route) (no : TripNo) : Type 0 where
  pub r : ℕ
  pub p : ℕ
  pub route : Route
  pub is_route : slice_get routes r ≡ Some route
  pub is_row : slice_get route.trips p ≡ Some no

pub record HoldsTrips (trips : List Trip) (routes : List Route) : Type 0 where
  pub rows_are : (r : ℕ) (route : Route) → slice_get routes r ≡ Some route → IsRouteOf trips route
  pub each_trip : (no : TripNo) → no.0 < length trips → HasRow routes no

-- as many stops, the buffer, and the trips of the network, none of whose rides goes back in time
pub record IsTableOf (n : Network) (table : Table) : Type 0 where
  pub stops_are : table.stops ≡ length n.stops
  pub buffer_is : table.buffer ≡ n.buffer
  pub holds : HoldsTrips n.trips table.routes
  pub forward : (ride : Ride) (on off : Call) → IsRide n ride on off → on.dep ≤ off.arr
