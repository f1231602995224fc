use Rattle.std.proofs.Common.{arith}
use Rattle.stop_match.proofs.LevelLemmas.{within_push, are-parents}
use Rattle.stop_match.proofs.level.parents.Goals as goal

pub loop-index-preserved : goal.loop-index-preserved
loop-index-preserved c =
    let fine = c.args.fine.now in
    let items = c.in_ok-push.ensures.items in
    record {
      each = omega (arith, c.in_ok-push.ensures.len, c.loop-index.invariant.each);
      within = rw items (within_push fine c.loop-index.coarse.items c.joined_at.result c.loop-index.index c.loop-index.invariant.each
          c.loop-index.invariant.within (λ k d lt at. c.joined_at.ensures k d lt at));
    }

pub returns-clause-parents : goal.returns-clause-parents
returns-clause-parents c =
    rw c.from_vec.ensures (are-parents c.args.fine.now c.loop-index.coarse.items c.loop-index.index c.requires c.loop-index.invariant.each (omega arith)
    c.loop-index.invariant.within)
