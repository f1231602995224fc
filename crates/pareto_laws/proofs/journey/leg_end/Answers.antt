use Rattle.pareto_laws.proofs.JourneyLegs.{leg_late, beyond}
use Rattle.pareto_laws.proofs.journey.leg_end.Goals as goal

pub returns-in_err-on-clause-none : goal.returns-in_err-on-clause-none
returns-in_err-on-clause-none c = rw c.from_residual.ensures (λ q a leg. c.in_err-on.ensures.none leg.on leg.off leg.is_ride)

pub returns-else-is_in_time-clause-none : goal.returns-else-is_in_time-clause-none
returns-else-is_in_time-clause-none c =
    leg_late c.args.network.now c.args.from c.args.second c.args.walk.now c.args.ride c.in_ok-on.on c.in_ok-on.off c.in_ok-seconds.seconds
    c.in_ok-on.ensures.ride (rw c.node_at.ensures at c.in_ok-seconds.ensures.seconds) (beyond _ _ c.if-is_in_time.ensures)
