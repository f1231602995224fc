use Rattle.std.proofs.Common.{◌≡◌, ◌≤◌, ◌<◌, ℕ, length, map, vec_capacity}
use Rattle.std.specs.Prelude.{replicate, slice_get, Some}
use Rattle.route_split.specs.Route.{Route}
use Rattle.two_trip_rides.specs.Second.{no_held}
use Rattle.two_trip_labels.specs.Second.{held_row}
use Rattle.two_trip_labels.proofs.held_rows.no_held_rows.Given as goal

abbrev pub invariant-loop-route : goal.invariant-loop-route
invariant-loop-route l = record {
  many : length l.rows.items ≡ l.route-index;
  room : length l.routes ≤ vec_capacity l.rows;
  none : (r : ℕ) (route : Route) → r < l.route-index → slice_get l.routes r ≡ Some route
      → held_row (map (λ row. row.items) l.rows.items) r ≡ replicate (length route.places) no_held;
}
