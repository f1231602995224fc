use Rattle.std.proofs.Common.{◌+◌, ◌<◌, ◌≤◌, ℕ, slice_index}
use Rattle.route_split.proofs.rows.first_from.Given as goal

abbrev pub invariant-loop-k : goal.invariant-loop-k
invariant-loop-k l = record {
  within : l.low + l.missed ≤ l.k;
  before : (k : ℕ) → l.low ≤ k → k < l.low + l.missed → slice_index l.row k < l.ready;
  there : (k : ℕ) → l.low + l.missed ≤ k → k < l.k → l.ready ≤ slice_index l.row k;
}
