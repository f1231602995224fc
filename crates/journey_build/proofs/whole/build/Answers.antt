use Rattle.std.proofs.Common.{◌≡◌, ◌∙◌, ◌+◌, ◌<◌, ◌≤◌, ℕ, List, Option, Some, None, length, get_or, slice_index_or, refl, sym, ap, subst, arith, rules}
use Rattle.std.specs.Prelude.{IsNone, IfNone}
use Rattle.std.proofs.lemmas.List.{get_or_default}
use Rattle.move_model.specs.declared.network.NodeNo.{NodeNo}
use Rattle.move_model.specs.declared.journey.Ride.{Ride}
use Rattle.move_model.specs.declared.journey.Journey.{Journey}
use Rattle.move_model.specs.Streets.{Streets}
use Rattle.move_model.specs.Network.{streets}
use Rattle.walk_hierarchy.specs.Hierarchy.{IsOver, IsUpDownSum, IsWayOver}
use Rattle.journey_build.specs.Built.{IsBuilt, IsMissed, IsBroken}
use Rattle.journey_build.specs.Leg.{IsLeg, IsOnWay}
use Rattle.journey_build.proofs.WayLaws.{goes_on, misses, ends_nowhere, ends_as, built_whole, built_rides, no_journey, least_walks}
use Rattle.journey_build.proofs.whole.build.Goals as goal

abbrev nobody : Ride
nobody = record { trip = record { 0 = 0 }; board = 0; alight = 0 }

read_is : (xs : List Ride) (i : ℕ) (d : Ride) → i < length xs → get_or xs i d ≡ get_or xs i (get_or xs i d)
read_is xs i d lt = get_or_default xs i d (get_or xs i d) lt

if_none : {T : Type 0} (o : Option T) (P : Type 0) → IsNone o → IfNone o P → P
if_none None P gone p = p
if_none (Some x) P gone p = cc

pub returns-in_default-clause-none : goal.returns-in_default-clause-none
returns-in_default-clause-none g c =
    let n = c.args.network.now in
    let h = c.args.hierarchy.now in
    let all = c.args.rides.now in
    let items = c.as_slice-ride-items.result.now in
    let i = c.loop-ride.ride-index in
    let ride : Ride = slice_index_or items i nobody in
    let lt : i < length all = subst (λ (xs : List Ride). i < length xs) c.as_slice-ride-items.ensures c.loop-ride-test.true in
    let is : ride ≡ get_or all i ride = read_is items i nobody c.loop-ride-test.true ∙ ap (λ (xs : List Ride). get_or xs i ride) c.as_slice-ride-items.ensures in
    let missed : IsMissed n h c.loop-ride.place c.loop-ride.second ride = if_none c.in_ok-found.found _ (search rules) c.in_ok-found.ensures.missed in
    let broken : IsBroken n h c.args.from c.args.depart all c.args.to =
    misses n h c.args.from c.args.depart all c.args.to i c.loop-ride.walks c.loop-ride.place c.loop-ride.second c.loop-ride.invariant.way ride lt is missed in
    (λ gone. broken, λ b. refl)

pub returns-in_default-clause-no_journey : goal.returns-in_default-clause-no_journey
returns-in_default-clause-no_journey g c gives =
    let n = c.args.network.now in
    let h = c.args.hierarchy.now in
    let all = c.args.rides.now in
    let items = c.as_slice-ride-items.result.now in
    let i = c.loop-ride.ride-index in
    let ride : Ride = slice_index_or items i nobody in
    let lt : i < length all = subst (λ (xs : List Ride). i < length xs) c.as_slice-ride-items.ensures c.loop-ride-test.true in
    let is : ride ≡ get_or all i ride = read_is items i nobody c.loop-ride-test.true ∙ ap (λ (xs : List Ride). get_or xs i ride) c.as_slice-ride-items.ensures in
    let missed : IsMissed n h c.loop-ride.place c.loop-ride.second ride = if_none c.in_ok-found.found _ (search rules) c.in_ok-found.ensures.missed in
    let broken : IsBroken n h c.args.from c.args.depart all c.args.to =
    misses n h c.args.from c.args.depart all c.args.to i c.loop-ride.walks c.loop-ride.place c.loop-ride.second c.loop-ride.invariant.way ride lt is missed in
    (λ gone. no_journey n h c.args.from c.args.depart all c.args.to c.requires.network gives broken, λ none. refl)

pub loop-ride-preserved : goal.loop-ride-preserved
loop-ride-preserved g c =
    let n = c.args.network.now in
    let h = c.args.hierarchy.now in
    let all = c.args.rides.now in
    let items = c.as_slice-ride-items.result.now in
    let i = c.loop-ride.ride-index in
    let ride : Ride = slice_index_or items i nobody in
    let lt : i < length all = subst (λ (xs : List Ride). i < length xs) c.as_slice-ride-items.ensures c.loop-ride-test.true in
    let is : ride ≡ get_or all i ride = read_is items i nobody c.loop-ride-test.true ∙ ap (λ (xs : List Ride). get_or xs i ride) c.as_slice-ride-items.ensures in
    let leg : IsLeg n h c.loop-ride.place c.loop-ride.second ride c.in-Some.leg = rw c.in-Some.is at c.in_ok-found.ensures.leg in
    record {
      way = subst (λ (ws : List (List NodeNo)). IsOnWay n h c.args.from c.args.depart all c.args.to (i + 1) ws c.in-Some.leg.place c.in-Some.leg.second) (sym c.in_ok-push.ensures.ok)
          (goes_on n h c.args.from c.args.depart all c.args.to i c.loop-ride.walks c.loop-ride.place c.loop-ride.second c.loop-ride.invariant.way ride c.in-Some.leg lt is leg);
      nodes = c.in_ok-found.ensures.nodes ∙ c.loop-ride.invariant.nodes;
      ticks = omega (arith, c.in_ok-found.ensures.ticks, c.loop-ride.invariant.ticks);
    }

pub returns-in_default-2-clause-none : goal.returns-in_default-2-clause-none
returns-in_default-2-clause-none g c =
    let n = c.args.network.now in
    let h = c.args.hierarchy.now in
    let all = c.args.rides.now in
    let items = c.as_slice-ride-items.result.now in
    let i = c.loop-ride.ride-index in
    let done : length all ≤ i = subst (λ (xs : List Ride). length xs ≤ i) c.as_slice-ride-items.ensures c.loop-ride-test.false in
    let nowhere : (m : ℕ) → IsUpDownSum h c.loop-ride.place c.args.to m → ⊥ = c.in_ok-walk.ensures.none.0 (search rules) in
    let broken : IsBroken n h c.args.from c.args.depart all c.args.to =
    ends_nowhere n h c.args.from c.args.depart all c.args.to i c.loop-ride.walks c.loop-ride.place c.loop-ride.second c.loop-ride.invariant.way done nowhere in
    (λ gone. broken, λ b. refl)

pub returns-in_default-2-clause-no_journey : goal.returns-in_default-2-clause-no_journey
returns-in_default-2-clause-no_journey g c gives =
    let n = c.args.network.now in
    let h = c.args.hierarchy.now in
    let all = c.args.rides.now in
    let items = c.as_slice-ride-items.result.now in
    let i = c.loop-ride.ride-index in
    let done : length all ≤ i = subst (λ (xs : List Ride). length xs ≤ i) c.as_slice-ride-items.ensures c.loop-ride-test.false in
    let nowhere : (m : ℕ) → IsUpDownSum h c.loop-ride.place c.args.to m → ⊥ = c.in_ok-walk.ensures.none.0 (search rules) in
    let broken : IsBroken n h c.args.from c.args.depart all c.args.to =
    ends_nowhere n h c.args.from c.args.depart all c.args.to i c.loop-ride.walks c.loop-ride.place c.loop-ride.second c.loop-ride.invariant.way done nowhere in
    (λ gone. no_journey n h c.args.from c.args.depart all c.args.to c.requires.network gives broken, λ none. refl)

pub returns-clause-built : goal.returns-clause-built
returns-clause-built g c =
    let n = c.args.network.now in
    let h = c.args.hierarchy.now in
    let all = c.args.rides.now in
    let items = c.as_slice-ride-items.result.now in
    let i = c.loop-ride.ride-index in
    let done : length all ≤ i = subst (λ (xs : List Ride). length xs ≤ i) c.as_slice-ride-items.ensures c.loop-ride-test.false in
    let ways : (graph : Streets) → IsOver graph h → IsWayOver graph h c.loop-ride.place c.args.to c.in-Some-2.walk = rw c.in-Some-2.is at c.in_ok-walk.ensures.walks in
    let built : IsBuilt n h c.args.from c.args.depart all c.args.to (record { depart = c.args.depart; walks = c.push-2.new.self; rides = c.in_ok-rides.rides }) =
    ends_as n h c.args.from c.args.depart all c.args.to i c.loop-ride.walks c.loop-ride.place c.loop-ride.second c.loop-ride.invariant.way c.in-Some-2.walk c.push-2.new.self c.in_ok-rides.rides done
    (ways (streets n) c.requires.over) c.in_ok-push-2.ensures.ok (c.in_ok-rides.ensures ∙ c.as_slice.ensures) in
    built

pub returns-clause-none : goal.returns-clause-none
returns-clause-none g c =
    let n = c.args.network.now in
    let h = c.args.hierarchy.now in
    let all = c.args.rides.now in
    let items = c.as_slice-ride-items.result.now in
    let i = c.loop-ride.ride-index in
    let done : length all ≤ i = subst (λ (xs : List Ride). length xs ≤ i) c.as_slice-ride-items.ensures c.loop-ride-test.false in
    let ways : (graph : Streets) → IsOver graph h → IsWayOver graph h c.loop-ride.place c.args.to c.in-Some-2.walk = rw c.in-Some-2.is at c.in_ok-walk.ensures.walks in
    let journey : Journey = record { depart = c.args.depart; walks = c.push-2.new.self; rides = c.in_ok-rides.rides } in
    let built : IsBuilt n h c.args.from c.args.depart all c.args.to (record { depart = c.args.depart; walks = c.push-2.new.self; rides = c.in_ok-rides.rides }) =
    ends_as n h c.args.from c.args.depart all c.args.to i c.loop-ride.walks c.loop-ride.place c.loop-ride.second c.loop-ride.invariant.way c.in-Some-2.walk c.push-2.new.self c.in_ok-rides.rides done
    (ways (streets n) c.requires.over) c.in_ok-push-2.ensures.ok (c.in_ok-rides.ensures ∙ c.as_slice.ensures) in
    (λ wrong. cc, λ broken. absurd (built_whole n h c.args.from c.args.depart all c.args.to journey built broken))

pub returns-clause-least_walks : goal.returns-clause-least_walks
returns-clause-least_walks g c gives =
    let n = c.args.network.now in
    let h = c.args.hierarchy.now in
    let all = c.args.rides.now in
    let items = c.as_slice-ride-items.result.now in
    let i = c.loop-ride.ride-index in
    let done : length all ≤ i = subst (λ (xs : List Ride). length xs ≤ i) c.as_slice-ride-items.ensures c.loop-ride-test.false in
    let ways : (graph : Streets) → IsOver graph h → IsWayOver graph h c.loop-ride.place c.args.to c.in-Some-2.walk = rw c.in-Some-2.is at c.in_ok-walk.ensures.walks in
    let journey : Journey = record { depart = c.args.depart; walks = c.push-2.new.self; rides = c.in_ok-rides.rides } in
    let built : IsBuilt n h c.args.from c.args.depart all c.args.to (record { depart = c.args.depart; walks = c.push-2.new.self; rides = c.in_ok-rides.rides }) =
    ends_as n h c.args.from c.args.depart all c.args.to i c.loop-ride.walks c.loop-ride.place c.loop-ride.second c.loop-ride.invariant.way c.in-Some-2.walk c.push-2.new.self c.in_ok-rides.rides done
    (ways (streets n) c.requires.over) c.in_ok-push-2.ensures.ok (c.in_ok-rides.ensures ∙ c.as_slice.ensures) in
    least_walks n h c.args.from c.args.depart all c.args.to journey built c.requires.network gives

pub returns-clause-no_journey : goal.returns-clause-no_journey
returns-clause-no_journey g c gives =
    let n = c.args.network.now in
    let h = c.args.hierarchy.now in
    let all = c.args.rides.now in
    let items = c.as_slice-ride-items.result.now in
    let i = c.loop-ride.ride-index in
    let done : length all ≤ i = subst (λ (xs : List Ride). length xs ≤ i) c.as_slice-ride-items.ensures c.loop-ride-test.false in
    let ways : (graph : Streets) → IsOver graph h → IsWayOver graph h c.loop-ride.place c.args.to c.in-Some-2.walk = rw c.in-Some-2.is at c.in_ok-walk.ensures.walks in
    let journey : Journey = record { depart = c.args.depart; walks = c.push-2.new.self; rides = c.in_ok-rides.rides } in
    let built : IsBuilt n h c.args.from c.args.depart all c.args.to (record { depart = c.args.depart; walks = c.push-2.new.self; rides = c.in_ok-rides.rides }) =
    ends_as n h c.args.from c.args.depart all c.args.to i c.loop-ride.walks c.loop-ride.place c.loop-ride.second c.loop-ride.invariant.way c.in-Some-2.walk c.push-2.new.self c.in_ok-rides.rides done
    (ways (streets n) c.requires.over) c.in_ok-push-2.ensures.ok (c.in_ok-rides.ensures ∙ c.as_slice.ensures) in
    (λ wrong. cc, λ none. absurd (none (built_rides n h c.args.from c.args.depart all c.args.to journey built)))
