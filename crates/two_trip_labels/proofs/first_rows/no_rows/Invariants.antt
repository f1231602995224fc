use Rattle.std.proofs.Common.{◌≡◌, ◌≤◌, ◌<◌, ℕ, length, map, vec_capacity}
use Rattle.std.specs.Prelude.{replicate, slice_get, Some}
use Rattle.route_split.specs.Route.{Route}
use Rattle.piece_laws.specs.Tables.{never}
use Rattle.two_trip_labels.specs.First.{row_at}
use Rattle.two_trip_labels.proofs.first_rows.no_rows.Given as goal

abbrev pub invariant-loop-route : goal.invariant-loop-route
invariant-loop-route l = record {
  many : length l.rows.items ≡ l.route-index;
  room : length l.routes ≤ vec_capacity l.rows;
  none : (r : ℕ) (route : Route) → r < l.route-index → slice_get l.routes r ≡ Some route
      → row_at (map (λ row. row.items) l.rows.items) r ≡ replicate (length route.places) never;
}
