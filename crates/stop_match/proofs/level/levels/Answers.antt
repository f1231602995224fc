use Rattle.std.proofs.Common.{arith}
use Rattle.stop_match.proofs.RisingLemmas.{point-cells-some, rising-one, rising-more, levels-whole}
use Rattle.stop_match.proofs.level.levels.Goals as goal

pub loop-alloc-init : goal.loop-alloc-init
loop-alloc-init c =
    record {
      some = point-cells-some c.in_ok-last.last c.args.points.now c.in_ok-last.ensures c.requires.some;
      rising = rw c.new-levels.ensures (rising-one c.in_ok-last.last c.args.points.now c.in_ok-last.ensures);
    }

pub loop-alloc-preserved : goal.loop-alloc-preserved
loop-alloc-preserved c =
    record {
      some = omega (arith, c.in_ok-next.ensures.fewer);
      rising = rw c.in_ok-push.ensures.ok
          (rising-more c.loop-alloc.levels c.loop-alloc.last c.in_ok-next.next c.args.points.now c.loop-alloc.invariant.rising (rw c.as_slice.ensures at c.in_ok-next.ensures.parents));
    }

pub returns : goal.returns
returns c =
    rw c.in_ok-push-2.ensures.ok
    (levels-whole c.loop-alloc.levels c.loop-alloc.last c.args.points.now c.loop-alloc.invariant.rising c.loop-alloc.invariant.some (omega arith))
