use Rattle.std.proofs.Common.{arith}
use Rattle.network_shape.proofs.OrderLemmas.{no_arc}
use Rattle.network_shape.proofs.MetLemmas.{no_street, met-added, met-longer, met-equal, shorter}
use Rattle.network_shape.proofs.streets.mark.Goals as goal

pub returns-then-arc-ne0-clause-met : goal.returns-then-arc-ne0-clause-met
returns-then-arc-ne0-clause-met c = λ _.
    met-added c.args.streets.now c.args.arcs.now c.args.met.now c.args.i c.in-Some.at no_street no_arc c.requires.within c.requires.in_order c.requires.before c.in-Some.ensures.found c.if-arc-ne0.true

pub returns-then-street-arc-clause-shorter : goal.returns-then-street-arc-clause-shorter
returns-then-street-arc-clause-shorter c = λ _ all.
    shorter c.args.streets.now c.args.arcs.now c.args.i c.in-Some.at no_street no_arc c.requires.within c.in-Some.ensures.found c.if-arc-ne0.false c.if-street-arc.true all

pub returns-then-street-arc-2-clause-met : goal.returns-then-street-arc-2-clause-met
returns-then-street-arc-2-clause-met c = λ _.
    met-equal c.args.streets.now c.args.arcs.now c.args.met.now c.args.i c.in-Some.at no_street no_arc c.requires.within c.requires.in_order c.requires.before c.in-Some.ensures.found c.if-street-arc-2.true

pub returns-else-street-arc-2-clause-met : goal.returns-else-street-arc-2-clause-met
returns-else-street-arc-2-clause-met c = λ _.
    met-longer c.args.streets.now c.args.arcs.now c.args.met.now c.args.i c.in-Some.at no_street no_arc c.requires.within c.requires.in_order c.requires.before c.in-Some.ensures.found
    (omega (arith, c.if-street-arc.false, c.if-street-arc-2.false))
