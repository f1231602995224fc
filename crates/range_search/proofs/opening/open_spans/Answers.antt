use Rattle.std.proofs.Common.{arith}
use Rattle.std.proofs.lemmas.Option.{slice_get-get_or, slice_get_within}
use Rattle.range_search.proofs.OpenLemmas.{open_zero, open_more}
use Rattle.range_search.proofs.opening.open_spans.Goals as goal

pub loop-k-init : goal.loop-k-init
loop-k-init c = open_zero c.args.levels.now c.args.leads.now c.args.depart c.args.pending.now

pub loop-k-preserved : goal.loop-k-preserved
loop-k-preserved c =
    open_more c.args.levels.now c.args.leads.now c.args.depart c.loop-k.k c.args.pending.now c.loop-k.pending _ _ c.open_span.new.pending
    (omega (arith, c.loop-k-test.true, c.loop-k.invariant.many, c.requires.pending))
    (slice_get-get_or c.args.leads.now c.loop-k.k _ (omega (arith, c.loop-k-test.true, c.requires.leads)))
    (slice_get-get_or c.loop-k.pending c.loop-k.k _ (omega (arith, c.loop-k-test.true, c.loop-k.invariant.many, c.requires.pending)))
    c.in_ok-open_span.ensures c.loop-k.invariant

pub returns-clause-opens : goal.returns-clause-opens
returns-clause-opens c k lead old new at_lead at_old at_new =
    c.loop-k.invariant.done k lead old new (omega (arith, c.loop-k-test.false, slice_get_within c.args.leads.now k lead at_lead, c.requires.leads)) at_lead at_old at_new
