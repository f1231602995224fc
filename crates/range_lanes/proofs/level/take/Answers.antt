use Rattle.std.proofs.Common.{ap, ◌∙◌, arith}
use Rattle.std.specs.Prelude.{vec_len}
use Rattle.range_lanes.proofs.LevelLemmas.{IsTaken, taken_label, taken_left_falls, taken_covers, taken_sound, best_from}
use Rattle.range_lanes.proofs.level.take.Goals as goal

pub returns : goal.returns
returns c =
    let old = c.args.level.now in
    let new = c.lower_best.new.level in
    let set = c.set_label.ensures in
    let low = c.lower_best.ensures in
    let t : IsTaken c.args.last.now old new c.args.stop c.args.second c.args.step c.args.fresh.now c.set_label.new.fresh =
    record {
      left = ap (λ v. v.items) low.left ∙ set.left;
      steps = ap (λ v. v.items) low.steps ∙ set.steps;
      marks = set.fresh;
      left_length = ap vec_len low.left ∙ set.left_length;
      steps_length = ap vec_len low.steps ∙ set.steps_length;
      ready = low.ready ∙ set.ready;
      from = low.from ∙ set.from;
      falls = omega (arith, low.falls, set.best);
      known = low.known;
      sound = best_from c.args.last.now old c.set_label.new.level new c.args.stop c.args.second set.best set.best_stop low.sound;
      earlier = c.requires.earlier;
      sure = c.requires.sure;
      within = omega (arith, c.requires.stop, c.requires.fits.left);
      steps_within = omega (arith, c.requires.stop, c.requires.fits.steps);
      fresh_within = omega (arith, c.requires.stop, c.requires.fresh);
    } in
    record {
      label = taken_label _ _ _ _ _ _ _ _ t;
      falls = taken_left_falls _ _ _ _ _ _ _ _ t;
      covers = taken_covers _ _ _ _ _ _ _ _ t;
      sound = taken_sound _ _ _ _ _ _ _ _ t;
    }
