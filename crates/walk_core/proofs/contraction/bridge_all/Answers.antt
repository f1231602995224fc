use Rattle.std.proofs.Common.{◌∙◌}
use Rattle.walk_core.specs.Bridge.{view_of}
use Rattle.walk_core.proofs.BridgeLemmas.{AllDone-more}
use Rattle.walk_core.proofs.contraction.bridge_all.Goals as goal

pub loop-x-preserved : goal.loop-x-preserved
loop-x-preserved c = record {
  done =
      AllDone-more c.args.m c.args.ins.now c.args.outs.now c.loop-x.x-index (record { seconds = 0; to = record { 0 = 0 }; middle = record { 0 = 0 } })
      (view_of c.args.out.now c.args.into.now c.args.rank.now) (view_of c.loop-x.out c.loop-x.into c.args.rank.now)
      (view_of c.bridge_row.new.out c.bridge_row.new.into c.args.rank.now) c.loop-x-test.true c.loop-x.invariant.done c.in_ok-bridge_row.ensures.done;
  labels = c.bridge_row.ensures.labels ∙ c.loop-x.invariant.labels;
}
