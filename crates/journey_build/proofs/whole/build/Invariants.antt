use Rattle.std.proofs.Common.{◌≡◌, ◌+◌, ◌≤◌}
use Rattle.journey_build.specs.Leg.{IsOnWay}
use Rattle.journey_build.proofs.whole.build.Given as goal

abbrev pub invariant-loop-ride : goal.invariant-loop-ride
invariant-loop-ride g l = record {
  way : IsOnWay l.network l.hierarchy l.fn.from l.depart l.rides l.to l.ride-index l.walks l.place l.second;
  nodes : l.work.nodes ≡ l.fn.work.nodes;
  ticks : l.searches ≤ l.fn.searches + l.ride-index;
}
