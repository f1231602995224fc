use Rattle.pareto_laws.proofs.ParetoByRides.{pareto_by_rides_lem}
use Rattle.pareto_laws.proofs.laws.pareto_by_rides.Goals as goal

pub returns : goal.returns
returns c = pareto_by_rides_lem
