use Rattle.std.proofs.Common.{◌≡◌, ◌-◌, ◌<◌, ℕ, length, Some, slice_index_or}
use Rattle.std.specs.Prelude.{slice_get}
use Rattle.move_model.specs.declared.network.NodeNo.{NodeNo}
use Rattle.walk_order.proofs.whole.ranks_of.Given as goal

abbrev pub invariant-loop-place : goal.invariant-loop-place
invariant-loop-place l = record {
  many : length l.ranks.items ≡ l.core.nodes;
  places : (k : ℕ) (v : NodeNo) → k < l.place → slice_get l.core.contracted k ≡ Some v → slice_index_or l.ranks.items (v.0 - 1) 0 ≡ k;
}
