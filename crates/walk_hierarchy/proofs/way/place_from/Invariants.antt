use Rattle.std.proofs.Common.{length, ◌-◌, ◌≢◌, ◌<◌, ◌≤◌, ℕ, slice_index_or}
use Rattle.walk_hierarchy.proofs.way.place_from.Given as goal

abbrev pub invariant-places : goal.invariant-places
invariant-places l = record {
  past : l.fn.since ≤ l.at;
  none : (k : ℕ) → l.fn.since ≤ k → k < l.at → k < length l.places → slice_index_or l.places k l.node ≢ l.node;
}

abbrev pub decreases-places : goal.decreases-places
decreases-places l = length l.places - l.at
