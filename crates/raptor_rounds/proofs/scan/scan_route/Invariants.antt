use Rattle.std.proofs.Common.{◌≡◌, ◌<◌, ◌≤◌, ◌⊎◌, length}
use Rattle.route_split.specs.Calls.{IsRouteOf}
use Rattle.raptor_rounds.specs.Labels.{Scope, AllReady, IsFound, Covers, Falls, IsHeld}
use Rattle.raptor_rounds.proofs.RidesLemmas.{CaughtBefore, ScannedBefore}
use Rattle.raptor_rounds.proofs.scan.scan_route.Given as goal

abbrev pub invariant-loop-call : goal.invariant-loop-call
invariant-loop-call l = record {
  falls : Falls l.fn.found l.found;
  held : (length l.rows.trips ≤ l.hold.row) ⊎ ((l.hold.on < l.call) × IsHeld l.rows l.buffer l.ready l.ready_by l.hold);
  caught : CaughtBefore l.rows l.buffer l.ready l.start l.call l.hold.row l.found.best;
  scanned : ScannedBefore l.rows l.buffer l.ready l.start l.call l.found;
  covers : Covers l.last l.fn.found → Covers l.last l.found;
  sound : (s : Scope) → s.query.last ≡ l.last → s.query.network.buffer ≡ l.buffer → IsRouteOf s.query.network.trips l.rows
      → AllReady s l.ready l.ready_by → IsFound s l.fn.found → IsFound s l.found;
}
