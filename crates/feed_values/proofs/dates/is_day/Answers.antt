use Rattle.std.proofs.Common.{◌≡◌, ◌∙◌, w8, w16, pos, sym, refl, rules, arith}
use Rattle.std.proofs.lemmas.Int.{to_z_pos}
use Rattle.feed_values.proofs.DateLemmas.{same}
use Rattle.feed_values.proofs.dates.is_day.Goals as goal

pub returns : goal.returns
returns c = c.is_ok.ensures.value ∙ same _ c.args.year c.args.month c.args.day _ _ _ (to_z_pos w16 c.args.year (omega arith)) (to_z_pos w8 c.args.month (omega arith)) (to_z_pos w8 c.args.day (omega arith)) c.requires.years c.new.ensures.succeeds
