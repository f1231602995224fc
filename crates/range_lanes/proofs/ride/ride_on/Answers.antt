use Rattle.std.proofs.Common.{arith}
use Rattle.range_lanes.proofs.Falling.{left_falls_on}
use Rattle.range_lanes.proofs.Riding.{ridden_more, ridden_all, row_arrives}
use Rattle.range_lanes.proofs.ride.ride_on.Goals as goal

pub loop-call-preserved : goal.loop-call-preserved
loop-call-preserved c =
    let was = c.loop-call.invariant in
    let now = c.leave_at.ensures in
    let below = c.args.below.now in
    let route = c.args.rows.now in
    let hold = c.args.hold in
    let n = c.loop-call.call in
    record {
      falls = left_falls_on _ _ _ _ _ _ was.falls now.falls;
      ridden = ridden_more below _ _ route hold.on hold.row n now.falls.falls was.ridden now.known;
      covers = λ h. now.covers (was.covers h);
      sound = λ q last_is rows on_row old. now.sound q last_is
          (λ off trip at may is_trip. row_arrives q below route hold rows on_row n off trip (omega (arith, c.loop-call.auto.call)) at may is_trip)
          (was.sound q last_is rows on_row old);
    }

pub returns-clause-ridden : goal.returns-clause-ridden
returns-clause-ridden c =
    ridden_all c.args.below.now c.loop-call.level c.args.rows.now c.args.hold.on c.args.hold.row c.loop-call.call
    (omega (arith, c.loop-call-test.false, c.calls-call-end.ensures)) c.loop-call.invariant.ridden
