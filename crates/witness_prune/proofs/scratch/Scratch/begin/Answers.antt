use Rattle.std.proofs.Common.{◌≡◌, ◌∙◌, length, vec_len, ap}
use Rattle.two_trip_labels.proofs.Viewed.{written}
use Rattle.witness_prune.specs.Labels.{kept_of}
use Rattle.witness_prune.proofs.NoneLemmas.{none_fits}
use Rattle.witness_prune.proofs.scratch.Scratch.begin.Goals as goal

pub returns-clause-fits : goal.returns-clause-fits
returns-clause-fits c = λ routes fits.
    let s = c.args.self.now in
    let new = c.put_foot.new.foot in
    let many : length new ≡ vec_len s.foot = c.put_foot.ensures.many ∙ c.as_mut_slice-foot.ensures.len in
    record {
      places = fits.places;
      within = fits.within;
      foot = ap length (written new s.foot.items (vec_len s.foot) many) ∙ c.put_foot.ensures.many ∙ ap length c.as_mut_slice-foot.ensures.value ∙ fits.foot;
      labels = none_fits routes c.args.rows.now (kept_of c.clear.new.self) (c.clear.ensures.none routes c.args.rows.now fits.labels);
      due = c.clear.ensures.due routes c.args.rows.now fits.due;
      cuts = fits.cuts;
      own = fits.own;
      room = fits.room;
    }

pub returns-clause-none : goal.returns-clause-none
returns-clause-none c = λ routes fits. c.clear.ensures.none routes c.args.rows.now fits.labels
