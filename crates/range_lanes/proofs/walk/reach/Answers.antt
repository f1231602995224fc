use Rattle.std.proofs.Common.{refl, arith}
use Rattle.range_lanes.proofs.Walking.{IsReadied, readied_falls, readied_known, readied_sound}
use Rattle.range_lanes.proofs.walk.reach.Goals as goal

pub returns-then-not-is_ready_late : goal.returns-then-not-is_ready_late
returns-then-not-is_ready_late c =
    let set = c.set_ready.ensures in
    let was = c.requires.fits in
    let t : IsReadied c.args.level.now c.set_ready.new.level c.args.stop c.args.second c.args.from c.args.better.now c.set_ready.new.better =
    record {
      ready = set.ready;
      from_is = set.from;
      marks = set.better;
      ready_length = set.ready_length;
      from_length = set.from_length;
      left = set.left;
      steps = set.steps;
      best = set.best;
      best_stop = set.best_stop;
      earlier = c.if-not-is_ready_late.ensures.earlier refl;
      within = omega (arith, c.requires.stop, was.ready);
      from_within = omega (arith, c.requires.stop, was.from);
      better_within = c.requires.stop;
    } in
    record {
      known = readied_known _ _ _ _ _ _ _ t c.args.below.now;
      falls = readied_falls _ _ _ _ _ _ _ t;
      sound = λ q walks old. readied_sound _ _ _ _ _ _ _ t q c.args.below.now (walks (c.if-not-is_ready_late.ensures.sure refl)) old;
    }

pub returns-else-not-is_ready_late-clause-known : goal.returns-else-not-is_ready_late-clause-known
returns-else-not-is_ready_late-clause-known c = c.if-not-is_ready_late.ensures.reached refl
