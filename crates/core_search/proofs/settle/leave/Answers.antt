use Rattle.std.proofs.Common.{◌<◌, List, length, slice_index_or, sym, ap, ◌∙◌, subst, arith}
use Rattle.walk_laws.specs.declared.CoreArc.{CoreArc}
use Rattle.walk_core.specs.Core.{core_row}
use Rattle.core_search.specs.declared.label.Label.{Label}
use Rattle.core_search.specs.Label.{after}
use Rattle.core_search.specs.Settle.{IsOffered}
use Rattle.core_search.proofs.SettleLemmas.{leaving_more, search_left}
use Rattle.core_search.proofs.settle.leave.Goals as goal

pub loop-arc-init : goal.loop-arc-init
loop-arc-init c = λ old first. first

pub offer-requires-clause-same : goal.offer-requires-clause-same
offer-requires-clause-same c =
    let now = c.loop-arc.invariant c.requires.0 c.requires.1 in
    now.sound.many_wait ∙ sym now.sound.many

pub loop-arc-preserved : goal.loop-arc-preserved
loop-arc-preserved c = λ old first.
    let none : CoreArc = record { seconds = 0; to = record { 0 = 0 }; middle = record { 0 = 0 } } in
    let core = c.args.core.now in
    let i = c.loop-arc.arc-index in
    let row = c.out-arc-items.ensures in
    let low : c.loop-arc.arc-index < length (core_row c.args.core.now c.args.at.0) = omega (arith, ap length row) in
    let offered : IsOffered c.args.labels.now c.loop-arc.waiting c.offer.new.waiting (slice_index_or (core_row c.args.core.now c.args.at.0) c.loop-arc.arc-index none).to.0
    (after c.args.label (slice_index_or (core_row c.args.core.now c.args.at.0) c.loop-arc.arc-index none).seconds) =
    subst (λ (arcs : List CoreArc). IsOffered c.args.labels.now c.loop-arc.waiting c.offer.new.waiting (slice_index_or arcs c.loop-arc.arc-index none).to.0
    (after c.args.label (slice_index_or arcs c.loop-arc.arc-index none).seconds)) row
    (subst (λ (x : Label). IsOffered c.args.labels.now c.loop-arc.waiting c.offer.new.waiting (slice_index_or c.out-arc-items.result.now c.loop-arc.arc-index none).to.0 x) c.later.ensures c.offer.ensures) in
    leaving_more core old c.args.labels.now c.loop-arc.waiting c.args.at.0 c.args.label i (c.loop-arc.invariant old first) c.offer.new.waiting none low
    (c.nodes.ensures.rules.1.arcs.out_short c.args.at i none low) offered

pub returns : goal.returns
returns c = λ old first.
    search_left c.args.core.now old c.args.labels.now c.loop-arc.waiting c.args.at.0 c.args.label c.loop-arc.arc-index (c.loop-arc.invariant old first)
    (omega (arith, c.loop-arc-test.false, ap length c.out-arc-items.ensures))
