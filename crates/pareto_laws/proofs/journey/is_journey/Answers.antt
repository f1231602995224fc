use Rattle.std.proofs.Common.{◌≡◌, ◌+◌, arith, length}
use Rattle.move_model.specs.declared.journey.Ride.{Ride}
use Rattle.pareto_laws.proofs.JourneyLegs.{says_no, journey_shape, item_is, stuck, further, at_end}
use Rattle.pareto_laws.proofs.journey.is_journey.Goals as goal

-- what a place past the end of the rides has
abbrev no_ride : Ride
no_ride = record { trip = record { 0 = 0 }; board = 0; alight = 0 }

pub returns-then-walks-rides : goal.returns-then-walks-rides
returns-then-walks-rides c =
    says_no (λ is.
    let shape : length c.as_slice-walks.result.now ≡ length c.as_slice-rides.result.now + 1 =
    rw (c.as_slice-walks.ensures, c.as_slice-rides.ensures) (journey_shape c.args.network.now c.args.journey.now is).0 in
    omega (arith, c.if-walks-rides.true))

pub returns-in_default-leg_end : goal.returns-in_default-leg_end
returns-in_default-leg_end c =
    let walks = c.as_slice-walks.result.now in
    let rides = c.as_slice-rides.result.now in
    let walk_is = item_is walks c.loop-i.i _ _ (omega (arith, c.loop-i.invariant.shape, c.loop-i-test.true)) c.as_slice.ensures c.index-walks-i.is in
    says_no (
    stuck c.args.network.now walks rides no_ride c.loop-i.invariant.shape c.loop-i.i c.loop-i.place c.loop-i.second c.loop-i.invariant.same
    c.as_slice.result.now c.loop-i-test.true walk_is c.in_default-leg_end.ensures.none
    )

pub loop-i-preserved : goal.loop-i-preserved
loop-i-preserved c =
    let walks = c.as_slice-walks.result.now in
    let rides = c.as_slice-rides.result.now in
    let walk_is = item_is walks c.loop-i.i _ _ (omega (arith, c.loop-i.invariant.shape, c.loop-i-test.true)) c.as_slice.ensures c.index-walks-i.is in
    record {
      shape = c.loop-i.invariant.shape;
      same =
          further c.args.network.now walks rides no_ride c.loop-i.invariant.shape c.loop-i.i c.loop-i.place c.loop-i.second c.loop-i.invariant.same
          c.as_slice.result.now c.loop-i-test.true walk_is _ _ c.in-Some-leg_end.ensures.end;
    }

pub returns : goal.returns
returns c =
    let walks = c.as_slice-walks.result.now in
    let rides = c.as_slice-rides.result.now in
    let walk_is = item_is walks (length rides) _ _ (omega (arith, c.loop-i.invariant.shape)) c.as_slice-2.ensures c.index-walks-rides.is in
    let end = at_end c.args.network.now walks rides no_ride c.loop-i.invariant.shape c.loop-i.i c.loop-i.place c.loop-i.second c.loop-i.invariant.same
    c.as_slice-2.result.now c.loop-i-test.false c.loop-i.auto.i-end walk_is in
    (λ h. end.0 (c.leads_on.ensures.0 h), λ h. c.leads_on.ensures.1 (end.1 h))
