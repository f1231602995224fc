use Rattle.std.proofs.Common.{◌<◌, ◌≤◌, ℕ, ◌-◌, length}
use Rattle.witness_prune.specs.Needed.{pair_at, IsBefore}
use Rattle.witness_prune.proofs.needed.place_of.Given as goal

abbrev pub invariant-loop-low : goal.invariant-loop-low
invariant-loop-low l = record {
  order : l.low ≤ l.high;
  within : l.high ≤ length l.pairs;
  before : (k : ℕ) → k < l.low → IsBefore (pair_at l.pairs k) l.pair;
  behind : (k : ℕ) → l.high ≤ k → k < length l.pairs → IsBefore (pair_at l.pairs k) l.pair → ⊥;
}

abbrev pub decreases-loop-low : goal.decreases-loop-low
decreases-loop-low l = l.high - l.low
