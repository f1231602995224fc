-- A timetable, as contracts see it.
--     Table                             its number of stops, its buffer and its routes
--     CallsAt routes stop r k           the k-th call of the r-th route is at the stop
--     LendsCalls routes stop calls      the calls are those at the stop
--     RiseByRoute calls                 they stand by route, and in a route by call, each once
--     route_of seconds places trips h   the route whose parts of the flat lists the head names
--     IsIndex routes stops firsts calls the calls of stop x lie from the x-th entry of firsts to the next
use Rattle.std.specs.Prelude.{◌≡◌, ℕ, ◌+◌, ◌*◌, ◌<◌, ◌≤◌, ◌⊎◌, ◌↔◌, List, length, slice_range, slice_get, slice_index, Contains, Some}
use Rattle.move_model.specs.declared.network.TripNo.{TripNo}
use Rattle.route_split.specs.declared.place.Place.{Place}
use Rattle.route_split.specs.declared.place.RouteCall.{RouteCall}
use Rattle.route_split.specs.declared.place.Head.{Head}
use Rattle.route_split.specs.Route.{Route}

pub record Table : Type 0 where
  pub stops : ℕ
  pub buffer : ℕ
  pub routes : List Route

pub record CallsAt (routes : List Route) (stop r k : ℕ) : Type 0 where
  pub route : Route
  pub place : Place
  pub is_route : slice_get routes r ≡ Some route
  pub is_place : slice_get route.places k ≡ Some place
  pub at_stop : place.stop.0 ≡ stop

abbrev pub LendsCalls : List Route → ℕ → List RouteCall → Type 0
LendsCalls routes stop calls = (r k : ℕ) → Contains calls (record { route = r; call = k }) ↔ CallsAt routes stop r k

abbrev pub RiseByRoute : List RouteCall → Type 0
RiseByRoute calls = (i j : ℕ) (c d : RouteCall) → i < j → slice_get calls i ≡ Some c → slice_get calls j ≡ Some d
    → (c.route < d.route) ⊎ ((c.route ≡ d.route) × (c.call < d.call))

abbrev pub route_of : List ℕ → List Place → List TripNo → Head → Route
route_of seconds places trips h = record {
  places = slice_range places h.place (h.place + h.calls);
  trips = slice_range trips h.trip (h.trip + h.trips);
  seconds = slice_range seconds h.second (h.second + 2 * h.calls * h.trips);
}

-- the parts that a head names lie within the flat lists
pub record HeadFits (seconds : List ℕ) (places : List Place) (trips : List TripNo) (h : Head) : Type 0 where
  pub seconds_are : h.second + 2 * h.calls * h.trips ≤ length seconds
  pub places_are : h.place + h.calls ≤ length places
  pub trips_are : h.trip + h.trips ≤ length trips

pub record IsIndex (routes : List Route) (stops : ℕ) (firsts : List ℕ) (calls : List RouteCall) : Type 0 where
  pub one_more : length firsts ≡ stops + 1
  pub rise : (x : ℕ) → x < stops → slice_index firsts x ≤ slice_index firsts (x + 1)
  pub within : (x : ℕ) → x < stops → slice_index firsts (x + 1) ≤ length calls
  pub exact : (x : ℕ) → x < stops → LendsCalls routes x (slice_range calls (slice_index firsts x) (slice_index firsts (x + 1)))
  pub in_order : (x : ℕ) → x < stops → RiseByRoute (slice_range calls (slice_index firsts x) (slice_index firsts (x + 1)))
