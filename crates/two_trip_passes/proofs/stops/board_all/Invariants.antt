use Rattle.std.proofs.Common.{◌≡◌, ℕ, ◌+◌, ◌<◌, length}
use Rattle.std.specs.Prelude.{slice_index}
use Rattle.two_trip_rides.specs.First.{Source}
use Rattle.two_trip_labels.specs.First.{AreRoutesOf, FirstGoes, FirstSound}
use Rattle.two_trip_passes.specs.Stops.{IsStopBoarded, IsFootOf, AreDue}
use Rattle.two_trip_passes.proofs.stops.board_all.Given as goal

abbrev pub invariant-loop-stop : goal.invariant-loop-stop
invariant-loop-stop l = record {
  goes : FirstGoes l.routes l.foot l.second l.fn.rows l.rows l.fn.first l.first;
  dues : length l.due ≡ length l.fn.due;
  due : AreDue l.routes l.rows l.due;
  caught : (x : ℕ) → x < l.stop → l.second + slice_index l.foot x < l.before → IsStopBoarded l.routes (l.second + slice_index l.foot x + l.table.buffer) l.rows x;
  sound : (s : Source) → s.second ≡ l.second → s.network.buffer ≡ l.table.buffer → AreRoutesOf s.network.trips l.routes → IsFootOf s l.foot
      → FirstSound s l.routes l.fn.rows l.fn.first → FirstSound s l.routes l.rows l.first;
}
