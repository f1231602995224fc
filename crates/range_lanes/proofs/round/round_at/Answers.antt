use Rattle.std.proofs.Common.{inl, inr}
use Rattle.range_lanes.proofs.Exploiting.{exploited_falls}
use Rattle.range_lanes.proofs.Rounding.{blank_true, round_falls, round_ready, round_fits, round_covers, round_walked}
use Rattle.range_lanes.proofs.round.round_at.Goals as goal

pub returns-clause-followed : goal.returns-clause-followed
returns-clause-followed g c r i second route place at_route at_place boards marked =
    exploited_falls c.args.below.now c.ride_level.new.level c.walk.new.level route c.args.table.now.buffer i second c.walk.ensures.falls.falls
    (c.ride_level.ensures.followed r i second route place at_route at_place boards marked)

pub returns-clause-falls : goal.returns-clause-falls
returns-clause-falls g c = round_falls _ _ _ _ _ _ _ c.ride_level.ensures.falls c.walk.ensures.falls

pub returns-clause-fits : goal.returns-clause-fits
returns-clause-fits g c = round_fits _ _ _ _ _ _ _ c.ride_level.ensures.falls c.walk.ensures.falls _ c.requires.fits

pub returns-clause-ready : goal.returns-clause-ready
returns-clause-ready g c x unmarked = round_ready _ _ _ _ _ _ _ c.ride_level.ensures.falls c.walk.ensures.falls x unmarked

pub returns-clause-walked : goal.returns-clause-walked
returns-clause-walked g c was = round_walked _ _ _ _ _ _ _ c.ride_level.ensures.falls c.walk.ensures.falls c.args.list.now c.args.below.now c.walk.ensures.known was

pub returns-clause-covers : goal.returns-clause-covers
returns-clause-covers g c was = round_covers _ _ _ _ _ _ _ c.ride_level.ensures.falls c.walk.ensures.falls c.args.last.now (c.ride_level.ensures.covers was)

pub returns-clause-sound : goal.returns-clause-sound
returns-clause-sound g c q first_is last_is list_is depart_is buffer_is holds ready old =
    c.walk.ensures.sound q list_is
    (λ y marked. elim (c.ride_level.ensures.falls.sure y marked) [
      | inl before ↦ absurd (blank_true _ _ y c.clear.ensures before)
      | inr lt ↦ lt
    ])
    (c.ride_level.ensures.sound q first_is last_is depart_is buffer_is holds ready old)
