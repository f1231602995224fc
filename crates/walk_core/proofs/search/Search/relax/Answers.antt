use Rattle.std.proofs.Common.{arith, ◌∙◌}
use Rattle.walk_core.proofs.LabelLemmas.{row_arc}
use Rattle.walk_core.proofs.search.Search.relax.Goals as goal

pub loop-arc-preserved : goal.loop-arc-preserved
loop-arc-preserved c = record {
  many = c.reach.ensures.many ∙ c.loop-arc.invariant.many;
  run = c.reach.ensures.run ∙ c.loop-arc.invariant.run;
  labels = λ from label all.
      c.reach.ensures.labels c.args.out.now from c.args.at
      (row_arc c.args.out.now c.row-arc-items.result.now c.args.at c.loop-arc.arc-index _ c.row-arc-items.ensures c.loop-arc-test.true)
      label (c.loop-arc.invariant.labels from label all);
}

pub reach-requires : goal.reach-requires
reach-requires c =
    let arc = row_arc c.args.out.now c.row-arc-items.result.now c.args.at c.loop-arc.arc-index (record { seconds = 0; to = record { 0 = 0 }; middle = record { 0 = 0 } }) c.row-arc-items.ensures c.loop-arc-test.true in
    record {
      ranks = omega (arith, c.requires.ranks, c.loop-arc.invariant.many);
      end = omega (arith, c.requires.fits.ends c.args.at _ _ (_, arc), c.loop-arc.invariant.many);
      short = c.requires.fits.short c.args.at _ _ (_, arc);
      reached = c.requires.reached;
    }
