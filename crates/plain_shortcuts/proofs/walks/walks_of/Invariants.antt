use Rattle.std.proofs.Common.{◌≡◌, ℕ, ◌<◌, [], length, slice_index_or}
use Rattle.move_model.specs.declared.network.StopNo.{StopNo}
use Rattle.move_model.specs.Network.{node_of}
use Rattle.plain_search.specs.Answer.{HoldsDistances}
use Rattle.plain_shortcuts.proofs.walks.walks_of.Given as goal

abbrev pub invariant-loop-stop : goal.invariant-loop-stop
invariant-loop-stop l = record {
  one_each : length l.walks.items ≡ l.stop-index;
  distances : (x : StopNo) → x.0 < l.stop-index → HoldsDistances l.network (node_of l.network x) (slice_index_or l.walks.items x.0 []);
}
