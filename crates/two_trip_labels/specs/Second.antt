-- Second rides on all routes.
--     held_row rows r                     what is held on the r-th route
--     RidesAt route k label buffer ..     boarding a route at its k-th call with a label, in the first row that departs in time
--     HeldFit routes rows                 a row for each route, as long as the route has calls
--     AllSecondClosed routes ..           what is held on each route is closed
--     AllSecondRows s routes rows         what is held on each route is so boarded
--     HeldRowsFall old new                nothing that is held has become greater
--     SecondGoes routes ..                what boarding leaves, whatever is boarded
--     IsCallRidden routes label ..        each row that departs from a call in time for the label is held, or one that is no greater
use Rattle.std.specs.Prelude.{◌≡◌, ℕ, ◌+◌, ◌<◌, ◌≤◌, IsTrue, List, [], length, slice_get, slice_index, slice_index_or, Some}
use Rattle.move_model.specs.Shortcut.{IsLess}
use Rattle.route_split.specs.declared.place.Place.{Place}
use Rattle.route_split.specs.declared.place.RouteCall.{RouteCall}
use Rattle.route_split.specs.Route.{Route, departures_of}
use Rattle.route_split.specs.Calls.{IsRouteOf}
use Rattle.piece_laws.specs.declared.labels.Ready.{Ready}
use Rattle.piece_laws.specs.declared.labels.Second.{Second}
use Rattle.piece_laws.specs.declared.labels.Held.{Held}
use Rattle.piece_laws.specs.Pieces.{held_entries}
use Rattle.two_trip_rides.specs.First.{Source}
use Rattle.two_trip_rides.specs.Second.{held_at, HeldFall, SecondsFall, SecondClosed, IsSecondRow, AreSecondRows, AreSeconds}

abbrev pub held_row : List (List Held) → ℕ → List Held
held_row rows r = slice_index_or rows r []

abbrev pub boarded_with : ℕ → Place → Ready → Held
boarded_with p on label = record { row = p; y = on.stop.0; label = label }

-- the label may be had at the call
abbrev pub MayRide : Source → Route → ℕ → Ready → ℕ → Type 0
MayRide s route k label buffer =
    (on : Place) (p : ℕ) → slice_get route.places k ≡ Some on → IsTrue on.board → label.ready + buffer ≤ slice_index (departures_of route k) p
    → IsSecondRow s route k (boarded_with p on label)

pub record RidesAt (route : Route) (k : ℕ) (label : Ready) (buffer : ℕ) (foot : List ℕ) (z : ℕ) (places : List ℕ) (ready : List Ready)
    (held held' : List Held) (best best' : List Second) : Type 0 where
  pub boarded : (on : Place) (p : ℕ) → slice_get route.places k ≡ Some on → IsTrue on.board → k + 1 < length route.places → p < length route.trips
      → label.ready + buffer ≤ slice_index (departures_of route k) p → ¬ (IsLess (held_entries (boarded_with p on label)) (held_entries (held_at held' k)))
  pub held_fall : HeldFall held held'
  pub best_fall : SecondsFall best best'
  pub closed : SecondClosed route foot z places ready held best → SecondClosed route foot z places ready held' best'
  pub rows_sound : (s : Source) → MayRide s route k label buffer → AreSecondRows s route held → AreSecondRows s route held'
  pub sound : (s : Source) → IsRouteOf s.network.trips route → MayRide s route k label buffer → AreSeconds s best → AreSeconds s best'

pub record HeldFit (routes : List Route) (rows : List (List Held)) : Type 0 where
  pub many : length rows ≡ length routes
  pub each : (r : ℕ) (route : Route) → slice_get routes r ≡ Some route → length (held_row rows r) ≡ length route.places

pub record AllSecondClosed (routes : List Route) (foot : List ℕ) (z : ℕ) (places : List ℕ) (ready : List Ready) (rows : List (List Held)) (best : List Second) : Type 0 where
  pub each : (r : ℕ) (route : Route) → slice_get routes r ≡ Some route → SecondClosed route foot z places ready (held_row rows r) best

pub record AllSecondRows (s : Source) (routes : List Route) (rows : List (List Held)) : Type 0 where
  pub each : (r : ℕ) (route : Route) → slice_get routes r ≡ Some route → AreSecondRows s route (held_row rows r)

pub record HeldRowsFall (old new : List (List Held)) : Type 0 where
  pub many : length new ≡ length old
  pub each : (r : ℕ) → HeldFall (held_row old r) (held_row new r)

pub record SecondGoes (routes : List Route) (foot : List ℕ) (z : ℕ) (places : List ℕ) (ready : List Ready) (rows rows' : List (List Held)) (best best' : List Second) : Type 0 where
  pub fit : HeldFit routes rows → HeldFit routes rows'
  pub rows_fall : HeldRowsFall rows rows'
  pub best_fall : SecondsFall best best'
  pub closed : AllSecondClosed routes foot z places ready rows best → AllSecondClosed routes foot z places ready rows' best'

-- what is held and known is real
pub record SecondSound (s : Source) (routes : List Route) (rows : List (List Held)) (best : List Second) : Type 0 where
  pub rows_are : AllSecondRows s routes rows
  pub best_are : AreSeconds s best

pub record MayRideCall (s : Source) (routes : List Route) (label : Ready) (buffer : ℕ) (c : RouteCall) : Type 0 where
  pub each : (route : Route) → slice_get routes c.route ≡ Some route → MayRide s route c.call label buffer

pub record IsCallRidden (routes : List Route) (label : Ready) (buffer : ℕ) (rows : List (List Held)) (c : RouteCall) : Type 0 where
  pub each : (p : ℕ) (route : Route) (on : Place) → slice_get routes c.route ≡ Some route → slice_get route.places c.call ≡ Some on
      → IsTrue on.board → c.call + 1 < length route.places → p < length route.trips → label.ready + buffer ≤ slice_index (departures_of route c.call) p
      → ¬ (IsLess (held_entries (boarded_with p on label)) (held_entries (held_at (held_row rows c.route) c.call)))
