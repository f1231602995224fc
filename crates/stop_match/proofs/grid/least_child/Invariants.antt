-- The cell so far is one of the grid.
use Rattle.std.proofs.Common.{◌<◌, length}
use Rattle.stop_match.proofs.grid.least_child.Given as goal

abbrev pub invariant-loop-child : goal.invariant-loop-child
invariant-loop-child l = l.least < length l.fine
