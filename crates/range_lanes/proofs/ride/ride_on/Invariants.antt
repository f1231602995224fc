use Rattle.std.proofs.Common.{◌≡◌}
use Rattle.route_split.specs.Calls.{IsRouteOf}
use Rattle.raptor_rounds.specs.Ways.{Query}
use Rattle.range_lanes.specs.Levels.{LeftFalls, Covers, IsOnRow, IsSound}
use Rattle.range_lanes.proofs.Riding.{RiddenBefore}
use Rattle.range_lanes.proofs.ride.ride_on.Given as goal

abbrev pub invariant-loop-call : goal.invariant-loop-call
invariant-loop-call l = record {
  falls : LeftFalls l.fn.level l.level l.fn.fresh l.fresh;
  ridden : RiddenBefore l.below l.level l.rows l.hold.on l.hold.row l.call;
  covers : Covers l.last l.fn.level → Covers l.last l.level;
  sound : (q : Query) → q.last ≡ l.last → IsRouteOf q.network.trips l.rows → IsOnRow q l.below l.rows l.hold → IsSound q l.below l.fn.level → IsSound q l.below l.level;
}
