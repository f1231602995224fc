use Rattle.std.proofs.Common.{◌<◌}
use Rattle.move_model.specs.declared.network.StopNo.{StopNo}
use Rattle.two_trip_passes.specs.Read.{IsNear}
use Rattle.two_trip_passes.proofs.read.has_near.Given as goal

abbrev pub invariant-loop-stop : goal.invariant-loop-stop
invariant-loop-stop l = record {
  none : (w : StopNo) → w.0 < l.stop → ¬ (IsNear l.rows l.best w l.place l.arrive);
}
