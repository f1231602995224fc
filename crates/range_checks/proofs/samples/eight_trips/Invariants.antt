use Rattle.std.proofs.Common.{◌≡◌, length}
use Rattle.std.specs.Prelude.{All}
use Rattle.range_checks.proofs.samples.eight_trips.Given as goal

abbrev pub invariant-loop-i : goal.invariant-loop-i
invariant-loop-i l = record {
  few : length l.trips ≡ l.i;
  few_calls : All (λ trip. length trip.calls ≡ 2) l.trips;
}
