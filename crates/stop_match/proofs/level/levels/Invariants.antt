-- The grids so far, with the last one.
use Rattle.std.proofs.Common.{◌<◌, ◌++◌, ◌∷◌, [], length}
use Rattle.stop_match.specs.Levels.{AreRising}
use Rattle.stop_match.proofs.level.levels.Given as goal

abbrev pub invariant-loop-alloc : goal.invariant-loop-alloc
invariant-loop-alloc l = record { some : 0 < length l.last; rising : AreRising (l.levels ++ l.last ∷ []) l.points }

abbrev pub decreases-loop-alloc : goal.decreases-loop-alloc
decreases-loop-alloc l = length l.last
