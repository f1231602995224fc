use Rattle.std.proofs.Common.{◌-◌, ◌<◌, ◌≤◌, ℕ, length, slice_index}
use Rattle.route_split.proofs.rows.catch.Given as goal

abbrev pub invariant-loop-high : goal.invariant-loop-high
invariant-loop-high l = record {
  order : l.low ≤ l.high;
  within : l.high ≤ length l.row;
  before : (k : ℕ) → k < l.low → slice_index l.row k < l.ready;
  behind : (k : ℕ) → l.high ≤ k → k < length l.row → l.ready ≤ slice_index l.row k;
}

abbrev pub decreases-loop-high : goal.decreases-loop-high
decreases-loop-high l = l.high - l.low
