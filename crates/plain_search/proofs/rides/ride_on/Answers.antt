use Rattle.std.proofs.Common.{inl, inr, arith}
use Rattle.plain_search.proofs.Riding.{RidesOn-same, riding_more, riding_done}
use Rattle.plain_search.proofs.rides.ride_on.Goals as goal

pub loop-index-init : goal.loop-index-init
loop-index-init c =
    record {
      whole = c.requires;
      rides = RidesOn-same _ _ _;
      ridden = λ ride within small. absurd (omega arith);
    }

pub loop-index-preserved : goal.loop-index-preserved
loop-index-preserved c =
    let h = c.in_ok-ride_trip.ensures in
    riding_more c.args.network.now c.args.before.now c.args.row.now c.loop-index.index c.in-Ok.number c.loop-index.row _ c.loop-index.invariant
    c.in-Ok.ensures.1 h.whole h.rides_on h.ridden

pub returns-after-loop-index-clause-ridden : goal.returns-after-loop-index-clause-ridden
returns-after-loop-index-clause-ridden c =
    riding_done c.args.network.now c.args.before.now c.args.row.now c.loop-index.index c.loop-index.row
    (inl (omega (arith, c.loop-index-test.false, c.len-index-end.ensures))) c.loop-index.invariant

pub returns-in_default-clause-ridden : goal.returns-in_default-clause-ridden
returns-in_default-clause-ridden c =
    riding_done c.args.network.now c.args.before.now c.args.row.now c.loop-index.index c.loop-index.row
    (inr (omega (arith, c.in_default.ensures))) c.loop-index.invariant
