use Rattle.std.proofs.Common.{◌≡◌, ◌<◌, ℕ, length, true, false}
use Rattle.std.specs.Prelude.{slice_index_or}
use Rattle.range_search.proofs.search.mark_all.Given as goal

abbrev pub invariant-loop-x : goal.invariant-loop-x
invariant-loop-x l = record {
  same : length l.set ≡ length l.fn.set;
  marks : (x : ℕ) → x < l.x → slice_index_or l.set x false ≡ true;
}
