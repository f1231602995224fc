use Rattle.std.proofs.Common.{◌≡◌, ◌≤◌, ◌<◌, ℕ, length}
use Rattle.std.specs.Prelude.{replicate}
use Rattle.piece_laws.specs.Tables.{never}
use Rattle.two_trip_labels.specs.First.{row_at}
use Rattle.two_trip_labels.proofs.first_rows.FirstRows.clear.Given as goal

abbrev pub invariant-loop-route : goal.invariant-loop-route
invariant-loop-route l = record {
  many : length l.self ≡ length l.fn.self;
  cleared : (r : ℕ) → r < l.route → row_at l.self r ≡ replicate (length (row_at l.fn.self r)) never;
  others : (r : ℕ) → l.route ≤ r → row_at l.self r ≡ row_at l.fn.self r;
}
