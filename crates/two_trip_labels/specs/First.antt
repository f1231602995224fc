-- First rides on all routes.
--     row_at rows r                    what is held on the r-th route
--     BoardsAt route k wanted ..       boarding a route at its k-th call, in the first row that departs at `wanted` or later
--     RowsFit routes rows              a row for each route, as long as the route has calls
--     AllFirstClosed routes ..         what is held on each route is closed
--     AllFirstRows s routes rows       what is held on each route is so boarded
--     IsCallBoarded routes wanted rows c   each row that departs from the call c at `wanted` or later is held
--     RowsFall old new                 nothing that is held has become greater
use Rattle.std.specs.Prelude.{◌≡◌, ℕ, ◌+◌, ◌<◌, ◌≤◌, IsTrue, List, [], length, slice_get, slice_index, slice_index_or, Some}
use Rattle.move_model.specs.declared.network.Trip.{Trip}
use Rattle.route_split.specs.declared.place.Place.{Place}
use Rattle.route_split.specs.declared.place.RouteCall.{RouteCall}
use Rattle.route_split.specs.Route.{Route, departures_of}
use Rattle.route_split.specs.Calls.{IsRouteOf}
use Rattle.two_trip_rides.specs.First.{Source, Falls, FirstClosed, IsFirstRow, AreFirstRows, AreFirst}

abbrev pub row_at : List (List ℕ) → ℕ → List ℕ
row_at rows r = slice_index_or rows r []

-- a row may be boarded from the second `wanted` on
abbrev pub MayBoard : Source → Route → ℕ → ℕ → Type 0
MayBoard s route k wanted =
    (on : Place) (p : ℕ) → slice_get route.places k ≡ Some on → IsTrue on.board → wanted ≤ slice_index (departures_of route k) p → IsFirstRow s route k p

pub record BoardsAt (route : Route) (k wanted : ℕ) (foot : List ℕ) (z : ℕ) (held held' first first' : List ℕ) : Type 0 where
  pub boarded : (on : Place) (p : ℕ) → slice_get route.places k ≡ Some on → IsTrue on.board → k + 1 < length route.places → p < length route.trips
      → wanted ≤ slice_index (departures_of route k) p → slice_index held' k ≤ p
  pub held_falls : Falls held held'
  pub first_falls : Falls first first'
  pub closed : FirstClosed route foot z held first → FirstClosed route foot z held' first'
  pub rows_sound : (s : Source) → MayBoard s route k wanted → AreFirstRows s route held → AreFirstRows s route held'
  pub sound : (s : Source) → IsRouteOf s.network.trips route → MayBoard s route k wanted → AreFirst s first → AreFirst s first'

pub record RowsFit (routes : List Route) (rows : List (List ℕ)) : Type 0 where
  pub many : length rows ≡ length routes
  pub each : (r : ℕ) (route : Route) → slice_get routes r ≡ Some route → length (row_at rows r) ≡ length route.places

pub record AllFirstClosed (routes : List Route) (foot : List ℕ) (z : ℕ) (rows : List (List ℕ)) (first : List ℕ) : Type 0 where
  pub each : (r : ℕ) (route : Route) → slice_get routes r ≡ Some route → FirstClosed route foot z (row_at rows r) first

pub record AllFirstRows (s : Source) (routes : List Route) (rows : List (List ℕ)) : Type 0 where
  pub each : (r : ℕ) (route : Route) → slice_get routes r ≡ Some route → AreFirstRows s route (row_at rows r)

pub record AreRoutesOf (trips : List Trip) (routes : List Route) : Type 0 where
  pub each : (r : ℕ) (route : Route) → slice_get routes r ≡ Some route → IsRouteOf trips route

pub record RowsFall (old new : List (List ℕ)) : Type 0 where
  pub many : length new ≡ length old
  pub each : (r : ℕ) → Falls (row_at old r) (row_at new r)

-- a call of a route
pub record IsCallOf (routes : List Route) (c : RouteCall) : Type 0 where
  pub route : Route
  pub is_route : slice_get routes c.route ≡ Some route
  pub exists : c.call < length route.places

-- what boarding leaves, whatever is boarded
pub record FirstGoes (routes : List Route) (foot : List ℕ) (z : ℕ) (rows rows' : List (List ℕ)) (first first' : List ℕ) : Type 0 where
  pub fit : RowsFit routes rows → RowsFit routes rows'
  pub rows_fall : RowsFall rows rows'
  pub first_falls : Falls first first'
  pub closed : AllFirstClosed routes foot z rows first → AllFirstClosed routes foot z rows' first'

-- what is held and known is real
pub record FirstSound (s : Source) (routes : List Route) (rows : List (List ℕ)) (first : List ℕ) : Type 0 where
  pub rows_are : AllFirstRows s routes rows
  pub first_are : AreFirst s first

-- at the call a row may be boarded from the second `wanted` on
pub record MayBoardCall (s : Source) (routes : List Route) (wanted : ℕ) (c : RouteCall) : Type 0 where
  pub each : (route : Route) → slice_get routes c.route ≡ Some route → MayBoard s route c.call wanted

-- each row that departs from the call at `wanted` or later is held
pub record IsCallBoarded (routes : List Route) (wanted : ℕ) (rows : List (List ℕ)) (c : RouteCall) : Type 0 where
  pub each : (p : ℕ) (route : Route) (on : Place) → slice_get routes c.route ≡ Some route → slice_get route.places c.call ≡ Some on
      → IsTrue on.board → c.call + 1 < length route.places → p < length route.trips → wanted ≤ slice_index (departures_of route c.call) p
      → slice_index (row_at rows c.route) c.call ≤ p
