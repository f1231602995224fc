use Rattle.std.proofs.Common.{◌≡◌, ◌∙◌, ◌+◌, ◌<◌, length, get_or, drop, sym, ap, subst, arith}
use Rattle.std.proofs.lemmas.Result.{on_ok_weaker}
use Rattle.move_model.specs.declared.journey.Ride.{Ride}
use Rattle.move_model.specs.Network.{node_of}
use Rattle.move_model.specs.Journey.{Travels}
use Rattle.journey_print.proofs.LegLemmas.{travels_shape, leg_at, leg_records-drop, walk_at, leg_records-end}
use Rattle.journey_print.proofs.WritingLemmas.{left_is, more_written, left_written}
use Rattle.journey_print.proofs.legs.add_legs.Goals as goal

-- what a place past the end of the rides has
abbrev no_ride : Ride
no_ride = record { trip = record { 0 = 0 }; board = 0; alight = 0 }

pub returns-then-walks-rides : goal.returns-then-walks-rides
returns-then-walks-rides c = λ s t arrive is small text h.
    absurd (omega (arith, travels_shape is, ap length c.as_slice-walks.ensures, ap length c.as_slice-rides.ensures, c.if-walks-rides.true))

pub loop-i-preserved : goal.loop-i-preserved
loop-i-preserved c = λ s t arrive is small.
    let n = c.args.network.now in
    let ws = c.as_slice-walks.result.now in
    let rs = c.as_slice-rides.result.now in
    let i = c.loop-i.i in
    let was = c.loop-i.invariant s t arrive is small in
    let within_walks : c.loop-i.i < length c.as_slice-walks.result.now = omega (arith, travels_shape is, c.loop-i-test.true) in
    let walk_is : c.as_slice.result.now ≡ get_or c.as_slice-walks.result.now c.loop-i.i c.as_slice.result.now = rw c.as_slice.ensures c.index-walks-i.is in
    let leg = leg_at n ws rs i c.loop-i.begins c.as_slice.result.now no_ride within_walks walk_is c.loop-i-test.true t arrive was.0 in
    let step = c.in_ok-begins.ensures was.0.at (node_of n leg.on.stop) leg.seconds leg.on leg.off leg.is_walk leg.is_ride leg.in_time in (
      record {
        at = node_of n leg.off.stop;
        travels = subst (λ k. Travels n (node_of n leg.off.stop) k (drop (i + 1) ws) (drop (i + 1) rs) t arrive) (sym step.0) leg.rest;
      },
      λ text h.
          more_written _ _ _ _ _ _ text
          (left_is
          (leg_records-drop n ws rs i c.loop-i.begins c.as_slice.result.now no_ride within_walks walk_is c.loop-i-test.true c.args.number c.args.journey
          c.in_ok-begins.begins (leg.left ∙ sym step.0))
          (was.1 text h))
          step.1,
    )

pub returns : goal.returns
returns c =
    on_ok_weaker c.add_walk.result
    (λ rows s t arrive is small text h.
    let n = c.args.network.now in
    let ws = c.as_slice-walks.result.now in
    let rs = c.as_slice-rides.result.now in
    let there : Travels c.args.network.now s c.args.found.now.depart c.as_slice-walks.result.now c.as_slice-rides.result.now t arrive =
    rw (c.as_slice-walks.ensures, c.as_slice-rides.ensures) is in
    let was = c.loop-i.invariant s t arrive there small in
    let at_end : c.loop-i.i ≡ length c.as_slice-rides.result.now = omega arith in
    let within_walks : c.loop-i.i < length c.as_slice-walks.result.now = omega (arith, travels_shape there) in
    let walk_is : c.as_slice-2.result.now ≡ get_or c.as_slice-walks.result.now c.loop-i.i c.as_slice-2.result.now =
    rw (c.as_slice-2.ensures, at_end) c.index-walks-rides.is in
    let last = walk_at n ws rs c.loop-i.i c.loop-i.begins c.as_slice-2.result.now no_ride within_walks walk_is c.loop-i-test.false t arrive was.0 in
    rw (← c.as_slice-walks.ensures, ← c.as_slice-rides.ensures)
    (left_written _ _ _ _ _ text
    (left_is (leg_records-end n ws rs c.loop-i.i c.loop-i.begins c.as_slice-2.result.now no_ride within_walks walk_is c.loop-i-test.false c.args.number c.args.journey)
    (was.1 text h))
    (rows was.0.at t last.seconds last.is_walk (omega (arith, last.in_time, small)))))
    c.add_walk.ensures
