use Rattle.std.proofs.Common.{◌≡◌, ◌<◌}
use Rattle.move_model.specs.declared.network.StopNo.{StopNo}
use Rattle.two_trip_rides.specs.First.{Source}
use Rattle.two_trip_rides.specs.Second.{ready_at}
use Rattle.two_trip_labels.specs.First.{AreRoutesOf}
use Rattle.two_trip_labels.specs.Second.{SecondSound}
use Rattle.two_trip_passes.specs.Rides.{IsBoardedLow, RideGoes, AreReal}
use Rattle.two_trip_passes.proofs.rides.ride_all.Given as goal

abbrev pub invariant-loop-stop : goal.invariant-loop-stop
invariant-loop-stop l = record {
  goes : RideGoes l.routes l.foot l.second l.places l.table.buffer l.first l.ready l.fn.boarded l.boarded l.fn.rows l.rows l.fn.best l.best;
  low : (y : StopNo) → y.0 < l.stop → IsBoardedLow l.places l.first l.ready (ready_at l.boarded y.0) y;
  sound : (s : Source) → s.network.buffer ≡ l.table.buffer → AreRoutesOf s.network.trips l.routes → AreReal s l.places l.first l.ready
      → SecondSound s l.routes l.fn.rows l.fn.best → SecondSound s l.routes l.rows l.best;
}
