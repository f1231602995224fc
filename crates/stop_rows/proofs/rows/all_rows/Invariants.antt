use Rattle.std.proofs.Common.{◌≡◌, ◌+◌, ◌<◌, ◌≤◌, ℕ, [], length, map, slice_index_or, vec_capacity}
use Rattle.std.specs.Prelude.{All}
use Rattle.move_model.specs.declared.network.NodeNo.{NodeNo}
use Rattle.move_model.specs.Streets.{Streets}
use Rattle.walk_core.specs.Core.{IsContraction}
use Rattle.core_search.specs.Waiting.{HasNone}
use Rattle.stop_rows.specs.Rows.{HoldsRow}
use Rattle.stop_rows.proofs.rows.all_rows.Given as goal

abbrev pub invariant-loop-node : goal.invariant-loop-node
invariant-loop-node l = record {
  many : length l.rows.items ≡ l.node-index;
  wide : All (λ row. length row.items ≡ length l.nodes) l.rows.items;
  none : HasNone l.labels;
  fits : length l.labels ≡ l.core.nodes + 1;
  work : l.work ≡ l.core.nodes;
  room : length l.nodes ≤ vec_capacity l.rows;
  rows : (graph : Streets) → IsContraction graph l.core → (p : ℕ) (d : NodeNo) → p < l.node-index
      → HoldsRow graph (slice_index_or l.nodes p d) l.nodes (slice_index_or (map (λ row. row.items) l.rows.items) p []);
}
