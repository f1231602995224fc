use Rattle.std.proofs.Common.{◌≡◌, List, length, subst, sym, arith}
use Rattle.std.specs.Prelude.{All}
use Rattle.std.proofs.lemmas.List.Elements.{All-append, All-take, All-drop}
use Rattle.move_model.specs.Range.{IsRangeOf, IsListedBest}
use Rattle.range_lanes.specs.declared.level.Level.{Level}
use Rattle.range_lanes.specs.Levels.{Fits}
use Rattle.range_profile.proofs.ProfileLemmas.{ok_still}
use Rattle.range_profile.proofs.answer.profile_within.Goals as goal

pub profile_in-requires-clause-fits : goal.profile_in-requires-clause-fits
profile_in-requires-clause-fits g c =
    let fit : Level → Type 0 = Fits c.args.table.now.stops in
    subst (λ (ls : List Level). All fit ls) (sym c.split_at_mut-low_levels.ensures.front) (All-take fit _ _ c.requires.fits)

pub returns-clause-range : goal.returns-clause-range
returns-clause-range g c =
    let many : length c.split_at_mut-low_levels.result.0.now ≡ c.args.limit = omega (arith, c.split_at_mut-low_levels.ensures.front_len, c.from-count.ensures) in
    ok_still c.profile_in.result _ _ c.profile_in.ensures.range (λ spans given n is_table trips_are.
    subst (λ k. IsRangeOf (λ d pair. IsListedBest n c.args.first_row.now c.args.last_row.now c.args.shortcuts.now c.args.foot d k pair) c.args.first c.args.last c.args.foot spans) many
    (given n is_table trips_are))

pub returns-clause-fits : goal.returns-clause-fits
returns-clause-fits g c =
    let fit : Level → Type 0 = Fits c.args.table.now.stops in
    All-append fit c.profile_in.new.levels _ c.profile_in.ensures.fits
    (subst (λ (ls : List Level). All fit ls) (sym c.split_at_mut-low_levels.ensures.back) (All-drop fit _ _ c.requires.fits))
