-- Rows in which nothing is held, before a search begins.
--     AreNoFirst routes rows   a row for each route, as long as it has calls, and first rides hold nothing there
--     AreNoHeld routes rows    the same of second rides
use Rattle.std.specs.Prelude.{◌≡◌, ℕ, List, length, replicate, slice_get, Some}
use Rattle.route_split.specs.Route.{Route}
use Rattle.piece_laws.specs.declared.labels.Held.{Held}
use Rattle.piece_laws.specs.Tables.{never}
use Rattle.two_trip_rides.specs.Second.{no_held}
use Rattle.two_trip_labels.specs.First.{row_at}
use Rattle.two_trip_labels.specs.Second.{held_row}

pub record AreNoFirst (routes : List Route) (rows : List (List ℕ)) : Type 0 where
  pub many : length rows ≡ length routes
  pub each : (r : ℕ) (route : Route) → slice_get routes r ≡ Some route → row_at rows r ≡ replicate (length route.places) never

pub record AreNoHeld (routes : List Route) (rows : List (List Held)) : Type 0 where
  pub many : length rows ≡ length routes
  pub each : (r : ℕ) (route : Route) → slice_get routes r ≡ Some route → held_row rows r ≡ replicate (length route.places) no_held
