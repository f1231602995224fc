use Rattle.route_split.specs.Calls.{IsRouteOf}
use Rattle.two_trip_rides.specs.First.{Source}
use Rattle.two_trip_rides.specs.Second.{HeldFall, SecondsFall, SecondClosed, IsSecondRow, AreSecondRows, AreSeconds}
use Rattle.two_trip_rides.proofs.SecondLemmas.{OpenAt, HeldFrom}
use Rattle.two_trip_rides.proofs.second.ride_second.Given as goal

abbrev pub invariant-loop-next : goal.invariant-loop-next
invariant-loop-next l = record {
  held_fall : HeldFall l.fn.held l.held;
  best_fall : SecondsFall l.fn.best l.best;
  held_from : HeldFrom l.call l.next l.hold l.held;
  closed : SecondClosed l.rows l.foot l.second l.places l.ready l.fn.held l.fn.best → OpenAt l.rows l.foot l.second l.places l.ready l.call l.next l.held l.best;
  rows_sound : (s : Source) → IsSecondRow s l.rows l.call l.hold → AreSecondRows s l.rows l.fn.held → AreSecondRows s l.rows l.held;
  sound : (s : Source) → IsRouteOf s.network.trips l.rows → IsSecondRow s l.rows l.call l.hold → AreSeconds s l.fn.best → AreSeconds s l.best;
}
