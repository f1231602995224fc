use Rattle.std.proofs.Common.{◌∙◌, sym, subst, ap}
use Rattle.move_model.specs.Streets.{HasLeastArc}
use Rattle.journey_print.specs.Legs.{lesser}
use Rattle.journey_print.proofs.ArcLemmas.{least_arc-drop, least_arc-end, least_arc_has}
use Rattle.journey_print.proofs.arcs.least_arc.Goals as goal

pub loop-arc-preserved : goal.loop-arc-preserved
loop-arc-preserved c =
    least_arc-drop c.args.arcs.now c.args.from c.args.to c.loop-arc.arc-index _ c.loop-arc.least _ c.loop-arc-test.true
    (c.lesser-least.ensures ∙ ap (λ o. lesser c.loop-arc.least o) c.seconds_between.ensures) c.loop-arc.invariant

pub returns-clause-value : goal.returns-clause-value
returns-clause-value c =
    least_arc-end c.args.arcs.now c.args.from c.args.to c.loop-arc.arc-index c.loop-arc.least c.loop-arc-test.false c.loop-arc.invariant

pub returns-clause-least : goal.returns-clause-least
returns-clause-least c =
    let value = least_arc-end c.args.arcs.now c.args.from c.args.to c.loop-arc.arc-index c.loop-arc.least c.loop-arc-test.false c.loop-arc.invariant in
    subst (λ o. HasLeastArc c.args.arcs.now c.args.from c.args.to o) (sym value) (least_arc_has c.args.arcs.now c.args.from c.args.to)
