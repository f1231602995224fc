use Rattle.std.proofs.Common.{◌≡◌, ◌<◌, ◌≤◌, ℕ, length, slice_index, slice_index_or, vec_capacity}
use Rattle.move_model.specs.declared.network.NodeNo.{NodeNo}
use Rattle.core_search.specs.Label.{label_at}
use Rattle.stop_rows.specs.Row.{entry_of}
use Rattle.stop_rows.proofs.row.row_from.Given as goal

abbrev pub invariant-loop-node : goal.invariant-loop-node
invariant-loop-node l = record {
  many : length l.row.items ≡ l.node-index;
  each : (q : ℕ) (d : NodeNo) → q < l.node-index → slice_index l.row.items q ≡ entry_of (label_at l.labels (slice_index_or l.nodes q d).0);
  room : length l.nodes ≤ vec_capacity l.row;
}
