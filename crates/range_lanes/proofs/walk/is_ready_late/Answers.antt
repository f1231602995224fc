use Rattle.std.proofs.Common.{inl, inr}
use Rattle.range_lanes.specs.Levels.Reached.{there}
use Rattle.range_lanes.proofs.walk.is_ready_late.Goals as goal

pub returns-then-bound-second-clause-reached : goal.returns-then-bound-second-clause-reached
returns-then-bound-second-clause-reached c = λ yes.
    let h = c.requires.bound.each c.args.second c.requires.limited c.if-bound-second.true in
    there h.0 h.1 (inr h.2)

pub returns-clause-reached : goal.returns-clause-reached
returns-clause-reached c = λ yes. let h = c.is_ready_below.ensures yes in there h.0 h.1 (inl h.2)
