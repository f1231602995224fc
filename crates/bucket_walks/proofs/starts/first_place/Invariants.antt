use Rattle.std.proofs.Common.{ℕ, ◌-◌, ◌<◌, ◌≤◌, length, get_or}
use Rattle.bucket_walks.proofs.starts.first_place.Given as goal

abbrev pub invariant-items : goal.invariant-items
invariant-items l = record {
  within : l.at ≤ length l.nodes;
  before : (i : ℕ) → i < l.at → get_or l.nodes i 0 < l.node;
}

abbrev pub decreases-items : goal.decreases-items
decreases-items l = length l.nodes - l.at
