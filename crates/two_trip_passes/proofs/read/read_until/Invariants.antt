use Rattle.std.proofs.Common.{◌≡◌, ◌<◌, ◌⊎◌}
use Rattle.move_model.specs.declared.network.StopNo.{StopNo}
use Rattle.two_trip_passes.specs.Read.{IsReadUntil, IsReadLast}
use Rattle.two_trip_passes.proofs.read.read_until.Given as goal

abbrev pub invariant-loop-stop : goal.invariant-loop-stop
invariant-loop-stop l = record {
  until : (v : StopNo) → v.0 < l.stop → IsReadUntil l.rows l.foot l.second l.own l.boarded l.best l.known v l.until;
  last : (l.until ≡ 0) ⊎ IsReadLast l.rows l.foot l.second l.own l.boarded l.best l.stop l.until;
}
