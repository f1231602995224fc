use Rattle.std.proofs.Common.{◌≡◌, ◌+◌, length}
use Rattle.std.specs.Prelude.{All}
use Rattle.route_split.specs.Calls.{HoldsTrips}
use Rattle.raptor_rounds.specs.Ways.{Query}
use Rattle.range_lanes.specs.Levels.{Fits}
use Rattle.range_lanes.specs.Lent.{IsLentBy, lent_count}
use Rattle.range_lanes.specs.State.{IsBetween, AreSound}
use Rattle.range_lanes.proofs.seconds.rounds.Given as goal

abbrev pub invariant-loop-k : goal.invariant-loop-k
invariant-loop-k g l = record {
  between : IsBetween l.table l.first l.last l.list l.depart 0 l.fn.seeds l.fn.levels → IsBetween l.table l.first l.last l.list l.depart l.k l.seeds l.levels;
  sound : (q : Query) → q.first ≡ l.first → q.last ≡ l.last → q.list ≡ l.list → q.depart ≡ l.depart → q.network.buffer ≡ l.table.buffer
      → HoldsTrips q.network.trips l.table.routes → AreSound q l.fn.levels → AreSound q l.levels;
  fits : All (Fits (length l.last)) l.levels;
  many : length l.levels ≡ length l.fn.levels;
  lent : IsLentBy l.table l.held;
  seeds : length l.seeds ≡ length l.last;
  fresh : length l.fresh ≡ length l.last;
  counted : l.opens + lent_count l.fn.held ≡ l.fn.opens + lent_count l.held;
}
