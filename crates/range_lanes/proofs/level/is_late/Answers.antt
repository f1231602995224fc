use Rattle.std.proofs.Common.{inl, inr, arith}
use Rattle.range_lanes.specs.Levels.Served.{there}
use Rattle.range_lanes.proofs.level.is_late.Goals as goal

pub returns-then-bound-late-clause-served : goal.returns-then-bound-late-clause-served
returns-then-bound-late-clause-served c = λ yes.
    let h = c.requires.bound.each c.args.second (omega (arith, c.ranges.second)) (omega (arith, c.if-bound-late.true)) in
    there h.0 h.1 (inr h.2)

pub returns-clause-served : goal.returns-clause-served
returns-clause-served c = λ yes. let h = c.is_below.ensures yes in there h.0 h.1 (inl h.2)
