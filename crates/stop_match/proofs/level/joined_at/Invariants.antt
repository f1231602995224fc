-- The cells so far are within the whole.
use Rattle.std.proofs.Common.{◌≤◌, ◌<◌, ℕ, slice_index_or}
use Rattle.stop_match.specs.declared.cell.Cell.{Cell}
use Rattle.stop_match.specs.Cell.{Within}
use Rattle.stop_match.proofs.level.joined_at.Given as goal

abbrev pub invariant-loop-c : goal.invariant-loop-c
invariant-loop-c l = (k : ℕ) (d : Cell) → l.begin ≤ k → k < l.c → Within (slice_index_or l.fine k d) l.whole
