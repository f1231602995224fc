-- The cells so far hold those of the finer grid.
use Rattle.std.proofs.Common.{◌≡◌, ◌<◌, ◌/◌, ℕ, length, slice_index_or}
use Rattle.stop_match.specs.declared.cell.Cell.{Cell}
use Rattle.stop_match.specs.Cell.{Within}
use Rattle.stop_match.proofs.level.parents.Given as goal

abbrev pub invariant-loop-index : goal.invariant-loop-index
invariant-loop-index l = record {
  each : length l.coarse.items ≡ l.index;
  within : (c : ℕ) (d e : Cell) → c < length l.fine → c / 8 < l.index → Within (slice_index_or l.fine c d) (slice_index_or l.coarse.items (c / 8) e);
}
