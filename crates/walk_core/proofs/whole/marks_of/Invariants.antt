use Rattle.std.proofs.Common.{◌≡◌, ℕ, ◌<◌, vec_len, true, false, slice_index_or}
use Rattle.move_model.specs.declared.network.NodeNo.{NodeNo}
use Rattle.walk_core.proofs.whole.marks_of.Given as goal

abbrev pub invariant-loop-node : goal.invariant-loop-node
invariant-loop-node l = record {
  many : vec_len l.marks ≡ l.count;
  marked : (k : ℕ) (d : NodeNo) → k < l.node-index → slice_index_or l.marks.items (slice_index_or l.nodes k d).0 false ≡ true;
}
