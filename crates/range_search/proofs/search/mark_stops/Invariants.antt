use Rattle.std.proofs.Common.{◌≡◌, ◌<◌, ℕ, length, true, false}
use Rattle.std.specs.Prelude.{slice_get, slice_index_or, Some}
use Rattle.move_model.specs.declared.network.StopNo.{StopNo}
use Rattle.range_search.proofs.search.mark_stops.Given as goal

abbrev pub invariant-loop-stop : goal.invariant-loop-stop
invariant-loop-stop l = record {
  same : length l.set ≡ length l.fn.set;
  marks : (i : ℕ) (x : StopNo) → i < l.stop-index → slice_get l.stops i ≡ Some x → slice_index_or l.set x.0 false ≡ true;
}
