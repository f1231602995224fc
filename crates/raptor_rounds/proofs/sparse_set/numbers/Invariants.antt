use Rattle.std.proofs.Common.{◌≡◌, ℕ, ◌<◌, length, slice_index}
use Rattle.raptor_rounds.proofs.sparse_set.numbers.Given as goal

abbrev pub invariant-loop-x : goal.invariant-loop-x
invariant-loop-x l = record {
  as_many : length l.xs.items ≡ l.x;
  each : (i : ℕ) → i < l.x → slice_index l.xs.items i ≡ i;
}
