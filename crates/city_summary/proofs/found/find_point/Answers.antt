use Rattle.std.proofs.lemmas.Result.{IfOk-weaker}
use Rattle.compiled_laws.proofs.Points.{point_exact}
use Rattle.city_summary.proofs.CountLaws.{point_searched}
use Rattle.city_summary.proofs.found.find_point.Goals as goal

pub returns-clause-found : goal.returns-clause-found
returns-clause-found g c =
    IfOk-weaker c.point.result _ _
    (λ found is. point_exact c.args.compiled.now c.args.from.now.node c.args.to.now.node c.args.depart c.args.limit found c.requires.right c.requires.asked.0 c.requires.asked.1 is)
    c.point.ensures.found

pub returns-clause-searches : goal.returns-clause-searches
returns-clause-searches g c =
    point_searched c.args.compiled.now c.args.from.now c.args.to.now c.args.depart c.args.limit _ _ c.requires.right c.requires.asked c.point.ensures.searches
