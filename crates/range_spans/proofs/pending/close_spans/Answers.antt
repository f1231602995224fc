use Rattle.std.proofs.Common.{◌+◌, ◌-◌, length, arith}
use Rattle.std.proofs.lemmas.Option.{slice_get-get_or}
use Rattle.range_spans.proofs.Loop.{close_none, close_more}
use Rattle.range_spans.proofs.pending.close_spans.Goals as goal

pub loop-i-init : goal.loop-i-init
loop-i-init c = close_none c.args.leads.now c.args.first c.args.pending.now c.args.closed.now.items

pub loop-i-preserved : goal.loop-i-preserved
loop-i-preserved c =
    let k = length c.args.pending.now - 1 - c.loop-i.i in
    close_more c.args.leads.now c.args.first c.loop-i.i c.args.pending.now c.loop-i.pending c.args.closed.now.items c.loop-i.closed.items c.loop-i.invariant
    c.loop-i-test.true k _ _ (omega (arith, c.loop-i-test.true)) (omega (arith, c.loop-i-test.true, c.requires.few))
    (slice_get-get_or c.args.leads.now k _ (omega (arith, c.loop-i-test.true, c.requires.many)))
    _ c.close_ended.new.pending c.close_ended.new.closed.items
    (slice_get-get_or c.loop-i.pending k _ (omega (arith, c.loop-i-test.true, c.loop-i.invariant.many))) c.in_ok-close_ended.ensures
