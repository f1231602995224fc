use Rattle.std.proofs.Common.{List, length, refl, sym, subst, arith}
use Rattle.std.specs.Prelude.{All}
use Rattle.raptor_rounds.proofs.ToldLemmas.{put_back}
use Rattle.range_lanes.specs.declared.level.Level.{Level}
use Rattle.range_lanes.specs.Levels.{Fits}
use Rattle.range_profile.proofs.ProfileLemmas.{limit_more}
use Rattle.range_profile.proofs.answer.profile_with.Goals as goal

pub returns-in_err-spans-clause-counted : goal.returns-in_err-spans-clause-counted
returns-in_err-spans-clause-counted g c n ds trips_are buffer_is are =
    limit_more c.args.limit (length c.args.table.now.routes) _ c.args.opens.now c.profile_within.new.opens (omega (arith, c.if-limit-eq0.false)) (c.profile_within.ensures.counted n ds trips_are buffer_is are)

pub returns-in_err-spans-clause-work : goal.returns-in_err-spans-clause-work
returns-in_err-spans-clause-work g c =
    let work = c.args.work.now in
    let now = c.profile_within.ensures in
    let levels = c.profile_within.new.levels in
    record {
      held = now.held;
      firsts = now.firsts;
      ends = now.ends;
      few = c.requires.work.few;
      fits = subst (λ (ls : List Level). All (Fits c.args.table.now.stops) ls)
          (sym (put_back work.levels.len levels work.levels.items (omega (arith, now.many, c.as_mut_slice.ensures.len)))) now.fits;
      better = now.better;
      fresh = now.fresh;
      leads = c.requires.work.leads;
      pending = c.requires.work.pending;
    }

pub returns-clause-range : goal.returns-clause-range
returns-clause-range g c n is_table trips_are = record { foot_is = refl; spans = c.in_ok-spans.ensures.range n is_table trips_are }

pub returns-clause-counted : goal.returns-clause-counted
returns-clause-counted g c n ds trips_are buffer_is are =
    limit_more c.args.limit (length c.args.table.now.routes) _ c.args.opens.now c.profile_within.new.opens (omega (arith, c.if-limit-eq0.false)) (c.profile_within.ensures.counted n ds trips_are buffer_is are)

pub returns-clause-work : goal.returns-clause-work
returns-clause-work g c =
    let work = c.args.work.now in
    let now = c.profile_within.ensures in
    let levels = c.profile_within.new.levels in
    record {
      held = now.held;
      firsts = now.firsts;
      ends = now.ends;
      few = c.requires.work.few;
      fits = subst (λ (ls : List Level). All (Fits c.args.table.now.stops) ls)
          (sym (put_back work.levels.len levels work.levels.items (omega (arith, now.many, c.as_mut_slice.ensures.len)))) now.fits;
      better = now.better;
      fresh = now.fresh;
      leads = c.requires.work.leads;
      pending = c.requires.work.pending;
    }
