use Rattle.range_lanes.specs.Levels.{IsBound}
use Rattle.range_lanes.proofs.round.least_best.Given as goal

abbrev pub invariant-loop-i : goal.invariant-loop-i
invariant-loop-i l = IsBound l.below l.bound
