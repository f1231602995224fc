use Rattle.std.proofs.Common.{◌≡◌, ◌≤◌, ◌<◌, ℕ, length}
use Rattle.std.specs.Prelude.{replicate}
use Rattle.two_trip_rides.specs.Second.{no_held}
use Rattle.two_trip_labels.specs.Second.{held_row}
use Rattle.two_trip_labels.proofs.held_rows.HeldRows.clear.Given as goal

abbrev pub invariant-loop-route : goal.invariant-loop-route
invariant-loop-route l = record {
  many : length l.self ≡ length l.fn.self;
  cleared : (r : ℕ) → r < l.route → held_row l.self r ≡ replicate (length (held_row l.fn.self r)) no_held;
  others : (r : ℕ) → l.route ≤ r → held_row l.self r ≡ held_row l.fn.self r;
}
