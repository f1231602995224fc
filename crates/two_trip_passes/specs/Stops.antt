-- First rides from all stops.
--     IsStopBoarded routes wanted rows x   each row that departs from the stop x at `wanted` or later is held
--     IsTimed route                        its departures are in order, and within a day
--     IsDueAt route k due wanted           each row that departs from the k-th call at `due` or later departs at `wanted` or later
--     IsDueCall routes due wanted c        the same of the call c of some route
--     AreDue routes rows due               each row that departs from a stop at the second that is due there, or later, is held
--     IsFootOf s foot                      the seconds on foot are distances from where the passenger sets out
use Rattle.std.specs.Prelude.{◌≡◌, ℕ, ◌+◌, ◌<◌, ◌≤◌, ◌⊎◌, IsTrue, List, length, slice_get, slice_index, Some}
use Rattle.move_model.specs.declared.network.StopNo.{StopNo}
use Rattle.route_split.specs.declared.place.Place.{Place}
use Rattle.route_split.specs.declared.place.RouteCall.{RouteCall}
use Rattle.route_split.specs.Route.{Route, departures_of, NeverFalls}
use Rattle.piece_laws.specs.Pieces.{IsFootDistance}
use Rattle.piece_laws.specs.Tables.{never}
use Rattle.two_trip_rides.specs.First.{Source}
use Rattle.two_trip_labels.specs.First.{row_at}

pub record IsStopBoarded (routes : List Route) (wanted : ℕ) (rows : List (List ℕ)) (x : ℕ) : Type 0 where
  pub each : (r i row : ℕ) (route : Route) (on : Place) → slice_get routes r ≡ Some route → slice_get route.places i ≡ Some on → on.stop.0 ≡ x
      → IsTrue on.board → i + 1 < length route.places → row < length route.trips → wanted ≤ slice_index (departures_of route i) row
      → slice_index (row_at rows r) i ≤ row

pub record IsTimed (route : Route) : Type 0 where
  pub order : (k : ℕ) → k < length route.places → NeverFalls (departures_of route k)
  pub soon : (k p : ℕ) → slice_index (departures_of route k) p < never

abbrev pub IsDueAt : Route → ℕ → ℕ → ℕ → Type 0
IsDueAt route k due wanted = (p : ℕ) → p < length route.trips → due ≤ slice_index (departures_of route k) p → wanted ≤ slice_index (departures_of route k) p

pub record IsDueCall (routes : List Route) (due wanted : ℕ) (c : RouteCall) : Type 0 where
  pub each : (route : Route) → slice_get routes c.route ≡ Some route → IsDueAt route c.call due wanted

-- or no second is due yet
pub record AreDue (routes : List Route) (rows : List (List ℕ)) (due : List ℕ) : Type 0 where
  pub each : (x : ℕ) → x < length due → (slice_index due x ≡ never) ⊎ IsStopBoarded routes (slice_index due x) rows x

pub record IsFootOf (s : Source) (foot : List ℕ) : Type 0 where
  pub each : (x : StopNo) → x.0 < length foot → slice_index foot x.0 < never → IsFootDistance s.network s.node x (slice_index foot x.0)
