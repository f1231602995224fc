use Rattle.std.proofs.Common.{arith, slice_index_or}
use Rattle.walk_laws.specs.declared.CoreArc.{CoreArc}
use Rattle.walk_core.specs.Bridge.{view_of}
use Rattle.walk_core.proofs.BridgeLemmas.{Spans-grows, RowDone-more}
use Rattle.walk_core.proofs.LabelLemmas.{label_read, Spans-from_label}
use Rattle.walk_core.proofs.contraction.bridge_row.Goals as goal

pub bridge_pair-requires-clause-found : goal.bridge_pair-requires-clause-found
bridge_pair-requires-clause-found c = λ short.
    let none : CoreArc = record { seconds = 0; to = record { 0 = 0 }; middle = record { 0 = 0 } } in
    let low = c.requires.others.low c.loop-y.y-index none c.loop-y-test.true in
    let label = label_read c.args.out.now c.args.rank.now c.args.m c.args.x.to.0 c.search.new.self.labels.items c.search.new.self.run
    (slice_index_or c.args.outs.now c.loop-y.y-index none).to.0 c.seconds_at-found.result c.search.ensures.labels
    (omega (arith, low, c.search.ensures.many, c.requires.labels, c.search.new.self.labels.ok.0))
    (c.seconds_at-found.ensures short) in
    Spans-grows (view_of c.args.out.now c.args.into.now c.args.rank.now) (view_of c.loop-y.out c.loop-y.into c.args.rank.now) c.args.m c.args.x.to.0
    (slice_index_or c.args.outs.now c.loop-y.y-index none).to.0 c.seconds_at-found.result c.loop-y.invariant.grows
    (Spans-from_label c.args.out.now c.args.into.now c.args.rank.now c.args.m c.args.x.to.0 (slice_index_or c.args.outs.now c.loop-y.y-index none).to.0 c.seconds_at-found.result label)

pub loop-y-preserved : goal.loop-y-preserved
loop-y-preserved c =
    RowDone-more c.args.m c.args.x c.args.outs.now c.loop-y.y-index (record { seconds = 0; to = record { 0 = 0 }; middle = record { 0 = 0 } })
    (view_of c.args.out.now c.args.into.now c.args.rank.now) (view_of c.loop-y.out c.loop-y.into c.args.rank.now)
    (view_of c.bridge_pair.new.out c.bridge_pair.new.into c.args.rank.now) c.loop-y-test.true c.loop-y.invariant c.in_ok-bridge_pair.ensures
