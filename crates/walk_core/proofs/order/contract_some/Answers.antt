use Rattle.std.proofs.Common.{rules, arith, ap, Vec, Global}
use Rattle.walk_core.specs.Bridge.{view_of}
use Rattle.move_model.specs.declared.network.NodeNo.{NodeNo}
use Rattle.walk_core.proofs.StateLemmas.{Advances-none, Advances-join, IsSound-same, Advances-same}
use Rattle.walk_core.proofs.order.contract_some.Goals as goal
use Rattle.walk_core.proofs.order.contract_some.Goals.{else-loop-step-test, then-loop-step-test+in_ok-advance+then-not-branch}

pub loop-step-init : goal.loop-step-init
loop-step-init c = record {
  sound = c.requires.sound;
  advances = Advances-none c.args.keep.now (view_of c.args.out.now c.args.into.now c.args.rank.now);
  labels = search rules;
}

pub loop-step-preserved : goal.loop-step-preserved
loop-step-preserved c = record {
  sound = c.in_ok-advance.ensures.sound;
  advances =
      Advances-join c.args.keep.now (view_of c.args.out.now c.args.into.now c.args.rank.now) (view_of c.loop-step.out c.loop-step.into c.loop-step.rank)
      (view_of c.advance.new.out c.advance.new.into c.advance.new.rank) c.loop-step.invariant.advances c.in_ok-advance.ensures.advances;
  labels = omega (arith, c.advance.ensures.labels, c.loop-step.invariant.labels, c.in_ok-advance.ensures.advances.many);
}

pub returns-clause-sound : goal.returns-clause-sound
returns-clause-sound c = elim c.loop-step-test.branch [
  | else-loop-step-test w ↦
      IsSound-same w.out-is w.into-is w.rank-is (ap (λ (v : Vec NodeNo Global). v.items) w.contracted-is) c.loop-step.invariant.sound
  | then-loop-step-test+in_ok-advance+then-not-branch w ↦
      IsSound-same w.out-is w.into-is w.rank-is (ap (λ (v : Vec NodeNo Global). v.items) w.contracted-is) w.in_ok-advance.ensures.sound
]

pub returns-clause-advances : goal.returns-clause-advances
returns-clause-advances c = elim c.loop-step-test.branch [
  | else-loop-step-test w ↦ Advances-same w.out-is w.into-is w.rank-is c.loop-step.invariant.advances
  | then-loop-step-test+in_ok-advance+then-not-branch w ↦
      Advances-same w.out-is w.into-is w.rank-is
      (Advances-join c.args.keep.now (view_of c.args.out.now c.args.into.now c.args.rank.now) (view_of c.loop-step.out c.loop-step.into c.loop-step.rank)
      (view_of w.advance.new.out w.advance.new.into w.advance.new.rank) c.loop-step.invariant.advances w.in_ok-advance.ensures.advances)
]
