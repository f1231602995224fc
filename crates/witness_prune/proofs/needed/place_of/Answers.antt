use Rattle.std.proofs.Common.{arith, refl, ◌+◌, ◌-◌, ◌<◌, ◌/◌, length}
use Rattle.std.proofs.lemmas.Bool.{false≢true}
use Rattle.witness_prune.proofs.NeededLemmas.{all_before, none_before}
use Rattle.witness_prune.proofs.needed.place_of.Goals as goal

pub loop-low-preserved-then-stands_before : goal.loop-low-preserved-then-stands_before
loop-low-preserved-then-stands_before c =
    let was = c.loop-low.invariant in
    let at : c.loop-low.low + (c.loop-low.high - c.loop-low.low) / 2 < length c.args.pairs.now = omega arith in
    record {
      order = omega arith;
      within = was.within;
      before = all_before _ _ _ c.requires at (c.if-stands_before.ensures.0 refl);
      behind = was.behind;
    }

pub loop-low-preserved : goal.loop-low-preserved
loop-low-preserved c =
    let was = c.loop-low.invariant in
    let at : c.loop-low.low + (c.loop-low.high - c.loop-low.low) / 2 < length c.args.pairs.now = omega arith in
    record {
      order = omega arith;
      within = omega arith;
      before = was.before;
      behind = none_before _ _ _ c.requires at (λ l. false≢true (c.if-stands_before.ensures.1 l));
    }
