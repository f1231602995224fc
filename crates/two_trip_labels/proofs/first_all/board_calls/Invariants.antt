use Rattle.std.proofs.Common.{take}
use Rattle.std.specs.Prelude.{All}
use Rattle.two_trip_rides.specs.First.{Source}
use Rattle.two_trip_labels.specs.First.{AreRoutesOf, FirstGoes, FirstSound, MayBoardCall, IsCallBoarded}
use Rattle.two_trip_labels.proofs.first_all.board_calls.Given as goal

abbrev pub invariant-loop-call : goal.invariant-loop-call
invariant-loop-call l = record {
  goes : FirstGoes l.routes l.foot l.second l.fn.rows l.rows l.fn.first l.first;
  boarded : All (IsCallBoarded l.routes l.wanted l.rows) (take l.call-index l.calls);
  sound : (s : Source) → AreRoutesOf s.network.trips l.routes → All (MayBoardCall s l.routes l.wanted) l.calls → FirstSound s l.routes l.fn.rows l.fn.first
      → FirstSound s l.routes l.rows l.first;
}
