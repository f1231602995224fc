use Rattle.std.proofs.Common.{◌≡◌, ℕ, ◌<◌, ◌≤◌, length, get_or}
use Rattle.bucket_walks.specs.Starts.{IsFirst}
use Rattle.bucket_walks.proofs.starts.starts.Given as goal

abbrev pub invariant-loop-node : goal.invariant-loop-node
invariant-loop-node l = record {
  many : length l.starts.items ≡ l.node;
  first : (v : ℕ) → v < l.node → IsFirst l.nodes v (get_or l.starts.items v 0);
  within : l.place ≤ length l.nodes;
  before : (i : ℕ) → i < l.place → get_or l.nodes i 0 < l.node;
}
