use Rattle.pareto_laws.proofs.JourneyLegs.{leads_on_test}
use Rattle.pareto_laws.proofs.walk.leads_on.Goals as goal

pub returns-in-Some : goal.returns-in-Some
returns-in-Some c =
    rw c.is_some.ensures (leads_on_test c.args.network.now c.args.from c.in-Some.to.now c.args.walk.now c.walk_seconds.result c.in-Some.ensures.value c.walk_seconds.ensures.seconds)
