use Rattle.pareto_laws.proofs.DistanceBound.{distance_bound_lem, distance_within_limits}
use Rattle.pareto_laws.proofs.laws.distance_bound.Goals as goal

pub returns : goal.returns
returns c = record { by_greatest_arc = λ g most ok small. distance_bound_lem g ok most small; within_limits = distance_within_limits }
