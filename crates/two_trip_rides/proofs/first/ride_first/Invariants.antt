use Rattle.route_split.specs.Calls.{IsRouteOf}
use Rattle.two_trip_rides.specs.First.{Source, Falls, FirstClosed, IsFirstRow, AreFirstRows, AreFirst}
use Rattle.two_trip_rides.proofs.FirstLemmas.{OpenAt, HeldFrom}
use Rattle.two_trip_rides.proofs.first.ride_first.Given as goal

abbrev pub invariant-loop-next : goal.invariant-loop-next
invariant-loop-next l = record {
  held_falls : Falls l.fn.held l.held;
  first_falls : Falls l.fn.first l.first;
  held_from : HeldFrom l.call l.next l.row l.held;
  closed : FirstClosed l.rows l.foot l.second l.fn.held l.fn.first → OpenAt l.rows l.foot l.second l.call l.next l.held l.first;
  rows_sound : (s : Source) → IsFirstRow s l.rows l.call l.row → AreFirstRows s l.rows l.fn.held → AreFirstRows s l.rows l.held;
  sound : (s : Source) → IsRouteOf s.network.trips l.rows → IsFirstRow s l.rows l.call l.row → AreFirst s l.fn.first → AreFirst s l.first;
}
