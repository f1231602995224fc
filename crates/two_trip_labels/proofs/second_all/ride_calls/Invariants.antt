use Rattle.std.proofs.Common.{take}
use Rattle.std.specs.Prelude.{All}
use Rattle.two_trip_rides.specs.First.{Source}
use Rattle.two_trip_labels.specs.First.{AreRoutesOf}
use Rattle.two_trip_labels.specs.Second.{SecondGoes, SecondSound, MayRideCall, IsCallRidden}
use Rattle.two_trip_labels.proofs.second_all.ride_calls.Given as goal

abbrev pub invariant-loop-call : goal.invariant-loop-call
invariant-loop-call l = record {
  goes : SecondGoes l.routes l.foot l.second l.places l.ready l.fn.rows l.rows l.fn.best l.best;
  boarded : All (IsCallRidden l.routes l.label l.buffer l.rows) (take l.call-index l.calls);
  sound : (s : Source) → AreRoutesOf s.network.trips l.routes → All (MayRideCall s l.routes l.label l.buffer) l.calls → SecondSound s l.routes l.fn.rows l.fn.best
      → SecondSound s l.routes l.rows l.best;
}
