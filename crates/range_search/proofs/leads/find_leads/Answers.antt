use Rattle.std.proofs.Common.{arith}
use Rattle.std.proofs.lemmas.Option.{slice_get-get_or, slice_get_within}
use Rattle.range_search.proofs.LeadLemmas.{find_none, find_more}
use Rattle.range_search.proofs.leads.find_leads.Goals as goal

pub loop-k-init : goal.loop-k-init
loop-k-init c = find_none c.args.levels.now c.args.bound c.args.leads.now c.requires.many

pub loop-k-preserved : goal.loop-k-preserved
loop-k-preserved c =
    find_more c.args.levels.now c.args.bound c.loop-k.k c.loop-k.leads c.loop-k.least _ c.lead_of.result c.lesser-least.result c.loop-k.invariant
    (slice_get-get_or c.args.levels.now c.loop-k.k _ (omega (arith, c.loop-k-test.true))) c.lead_of.ensures.led c.lead_of.ensures.none c.lesser-least.ensures.low c.lesser-least.ensures.same

pub returns-clause-exact : goal.returns-clause-exact
returns-clause-exact c k level is = c.loop-k.invariant.done k level (omega (arith, c.loop-k-test.false, slice_get_within c.args.levels.now k level is)) is
