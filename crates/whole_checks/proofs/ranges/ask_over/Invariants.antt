use Rattle.std.proofs.Common.{◌≡◌, length}
use Rattle.range_profile.specs.Profile.{FitsWork, most_rides}
use Rattle.whole_checks.proofs.ranges.ask_over.Given as goal

abbrev pub invariant-loop-query : goal.invariant-loop-query
invariant-loop-query g l = record {
  stops : l.rounds.stops ≡ l.table.stops;
  routes : l.rounds.routes ≡ length l.table.routes;
  limit : l.rounds.limit ≡ 4;
  work : FitsWork l.table l.work;
  most : most_rides l.work ≡ 4;
}
