use Rattle.std.proofs.Common.{◌≡◌, ◌+◌, ◌<◌, ℕ, length, get_or}
use Rattle.walk_hierarchy.proofs.places.names.Given as goal

abbrev pub invariant-loop-k : goal.invariant-loop-k
invariant-loop-k l = record {
  many : length l.names.items ≡ length l.ranks + 1;
  each : (u : ℕ) → u < l.k → get_or l.names.items (get_or l.ranks u 0 + 1) 0 ≡ u + 1;
}
