use Rattle.std.proofs.Common.{◌≡◌, length}
use Rattle.whole_checks.proofs.rounds.ask_over.Given as goal

abbrev pub invariant-loop-query : goal.invariant-loop-query
invariant-loop-query g l =
    (l.rounds.stops ≡ l.table.stops) × (l.rounds.routes ≡ length l.table.routes) × (l.rounds.limit ≡ 4)
