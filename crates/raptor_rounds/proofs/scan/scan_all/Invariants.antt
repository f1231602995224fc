use Rattle.std.proofs.Common.{◌≡◌, ℕ, ◌+◌, ◌<◌, ◌≤◌, length, Some, false, slice_index}
use Rattle.std.specs.Prelude.{slice_get}
use Rattle.route_split.specs.Route.{Route}
use Rattle.route_split.specs.Calls.{HoldsTrips}
use Rattle.raptor_rounds.specs.Labels.{Scope, AllReady, IsFound, Covers, Falls, Scanned}
use Rattle.raptor_rounds.proofs.scan.scan_all.Given as goal

abbrev pub invariant-loop-route : goal.invariant-loop-route
invariant-loop-route g l = record {
  falls : Falls l.fn.found l.found;
  scanned : (n r i : ℕ) (route : Route) → n < l.route-index → slice_get l.routes n ≡ Some r → slice_get l.table.routes r ≡ Some route → slice_index l.starts r ≤ i
      → Scanned route l.table.buffer l.ready.seconds l.found.left l.found.best i;
  covers : Covers l.last l.fn.found → Covers l.last l.found;
  sound : (s : Scope) → s.query.last ≡ l.last → s.query.network.buffer ≡ l.table.buffer → HoldsTrips s.query.network.trips l.table.routes
      → AllReady s l.ready.seconds l.ready.by.items → IsFound s l.fn.found → IsFound s l.found;
  marks : length l.marks ≡ length l.fn.marks;
  unmarked : (n r : ℕ) → l.route-index ≤ n → slice_get l.routes n ≡ Some r → slice_get l.marks r ≡ Some false;
  counted : l.opens ≤ l.fn.opens + l.route-index;
}
