use Rattle.std.proofs.Common.{◌≡◌, ℕ, ◌+◌, ◌<◌, Some}
use Rattle.std.specs.Prelude.{slice_get}
use Rattle.route_split.specs.Route.{Route}
use Rattle.route_split.specs.declared.place.RouteCall.{RouteCall}
use Rattle.route_split.specs.Calls.{HoldsTrips}
use Rattle.raptor_rounds.specs.Ways.{Query}
use Rattle.range_lanes.specs.Levels.{Boarded, LeftFalls, Covers, StartsFrom, IsSound}
use Rattle.range_lanes.specs.Lent.{IsLentBy, lent_count}
use Rattle.range_lanes.proofs.scan.board_stop.Given as goal

abbrev pub invariant-loop-call : goal.invariant-loop-call
invariant-loop-call g l = record {
  falls : LeftFalls l.fn.level l.level l.fn.fresh l.fresh;
  boarded : (n : ℕ) (c : RouteCall) (route : Route) → n < l.call-index → slice_get l.calls n ≡ Some c → slice_get l.table.routes c.route ≡ Some route
      → Boarded l.below l.level route l.table.buffer c.call l.second;
  covers : Covers l.last l.fn.level → Covers l.last l.level;
  sound : (q : Query) → q.last ≡ l.last → q.network.buffer ≡ l.table.buffer → HoldsTrips q.network.trips l.table.routes
      → StartsFrom q l.below l.fn.stop l.second l.from → IsSound q l.below l.fn.level → IsSound q l.below l.level;
  lent : IsLentBy l.table l.held;
  counted : l.opens + lent_count l.fn.held ≡ l.fn.opens + lent_count l.held;
}
