use Rattle.std.proofs.Common.{arith}
use Rattle.range_lanes.proofs.Rounding.{between_closed}
use Rattle.range_lanes.proofs.seconds.rounds.Goals as goal

pub loop-k-preserved : goal.loop-k-preserved
loop-k-preserved g c =
    let was = c.loop-k.invariant in
    let now = c.round.ensures in
    record {
      between = λ h. now.between (was.between h);
      sound = λ q first last list depart buffer holds old. now.sound q first last list depart buffer holds (was.sound q first last list depart buffer holds old);
      fits = now.fits;
      many = omega (arith, now.many, was.many);
      lent = now.held;
      seeds = now.better;
      fresh = now.fresh;
      counted = omega (arith, was.counted, now.counted);
    }

pub returns-clause-closed : goal.returns-clause-closed
returns-clause-closed g c was =
    between_closed _ _ _ _ _ c.loop-k.k c.loop-k.seeds c.loop-k.levels (omega (arith, c.loop-k-test.false, c.loop-k.invariant.many)) (c.loop-k.invariant.between was)
