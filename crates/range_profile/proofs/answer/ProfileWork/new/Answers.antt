use Rattle.std.proofs.Common.{◌∙◌, length, get_or, ap, subst, arith}
use Rattle.range_lanes.specs.Levels.{Fits}
use Rattle.range_lanes.proofs.LentLemmas.{length_blank}
use Rattle.range_profile.proofs.answer.ProfileWork.new.Goals as goal

pub returns-clause-fits : goal.returns-clause-fits
returns-clause-fits c =
    let stops_are = c.stops-stops.ensures in
    record {
      held = c.in_ok-held.ensures;
      firsts = c.in_ok-entries.ensures.firsts ∙ stops_are;
      ends = c.in_ok-entries.ensures.ends ∙ stops_are;
      few = omega (arith, c.in_ok-levels.ensures.many, c.ranges.limit.fits);
      fits = λ k d lt. subst (λ n. Fits n (get_or c.in_ok-levels.levels.items k d)) stops_are (c.in_ok-levels.ensures.blank k d lt).fits;
      better = ap length c.in_ok-better.ensures ∙ length_blank c.stops-stops.result ∙ stops_are;
      fresh = ap length c.in_ok-fresh.ensures ∙ length_blank c.stops-stops.result ∙ stops_are;
      leads = omega (arith, c.in_ok-leads.ensures.len, c.in_ok-levels.ensures.many);
      pending = omega (arith, c.in_ok-pending.ensures, c.in_ok-levels.ensures.many);
    }
