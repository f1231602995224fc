-- The cell is one of its grid.
use Rattle.std.proofs.Common.{◌<◌, length}
use Rattle.stop_match.specs.Cell.{cells}
use Rattle.stop_match.proofs.grid.first_guess.Given as goal

abbrev pub invariant-loop-depth : goal.invariant-loop-depth
invariant-loop-depth l = record { depth : l.depth < length l.levels; index : l.index < length (cells l.levels l.depth) }

abbrev pub decreases-loop-depth : goal.decreases-loop-depth
decreases-loop-depth l = l.depth
