use Rattle.std.proofs.lemmas.Result.{IfOk-weaker}
use Rattle.compiled_laws.proofs.Ranges.{range_exact}
use Rattle.city_summary.proofs.CountLaws.{range_searched, range_opened}
use Rattle.city_summary.proofs.found.find_range.Goals as goal

pub returns-clause-found : goal.returns-clause-found
returns-clause-found g c =
    IfOk-weaker c.range.result _ _
    (λ found is. range_exact c.args.compiled.now c.args.from.now.node c.args.to.now.node c.args.limit c.args.first c.args.last found.foot found.spans
    c.requires.right c.requires.asked.0 c.requires.asked.1 is)
    c.range.ensures.found

pub returns-clause-searches : goal.returns-clause-searches
returns-clause-searches g c =
    range_searched c.args.compiled.now c.args.from.now c.args.to.now c.args.first c.args.last c.args.limit _ _ c.requires.right c.requires.asked c.range.ensures.searches

pub returns-clause-opens : goal.returns-clause-opens
returns-clause-opens g c =
    range_opened c.args.compiled.now c.args.from.now c.args.to.now c.args.first c.args.last c.args.limit _ _ c.requires.right c.requires.asked c.range.ensures.opens
