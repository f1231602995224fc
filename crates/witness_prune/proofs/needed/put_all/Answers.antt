use Rattle.std.proofs.Common.{arith, rules}
use Rattle.witness_prune.proofs.NeededLemmas.{put_more, all_put}
use Rattle.witness_prune.proofs.needed.put_all.Goals as goal

pub loop-pair-preserved : goal.loop-pair-preserved
loop-pair-preserved c =
    let was = c.loop-pair.invariant in
    record {
      rising = c.put.ensures.rising;
      room = omega (arith, was.room, c.put.ensures.capacity, c.put.ensures.len);
      pairs = λ q. put_more _ _ _ c.args.more.now c.loop-pair.pair-index _ q (search rules) (was.pairs q) (c.put.ensures.pairs q);
    }

pub returns-clause-pairs : goal.returns-clause-pairs
returns-clause-pairs c q = all_put _ _ c.args.more.now c.loop-pair.pair-index q (omega arith) (c.loop-pair.invariant.pairs q)
