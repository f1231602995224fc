use Rattle.std.proofs.Common.{arith}
use Rattle.range_lanes.proofs.Departing.{blank_between, blank_sound}
use Rattle.range_search.proofs.search.search_last.Goals as goal

pub returns-clause-closed : goal.returns-clause-closed
returns-clause-closed g c =
    c.rounds.ensures.closed
    (blank_between c.args.table.now c.args.first.now c.args.last.now c.args.list.now c.args.depart c.mark_all.new.set c.clear_levels.new.levels
    c.routes-routes.ensures.whole c.requires.stops c.requires.list
    (λ x lt. c.mark_all.ensures.marks x (omega (arith, lt, c.requires.stops, c.stops.ensures)))
    (c.clear_levels.ensures.blank _ c.requires.fits))

pub returns-clause-sound : goal.returns-clause-sound
returns-clause-sound g c q first last list depart buffer holds =
    c.rounds.ensures.sound q first last list depart buffer holds (blank_sound q _ c.clear_levels.new.levels (c.clear_levels.ensures.blank _ c.requires.fits))

pub rounds-requires-clause-fits : goal.rounds-requires-clause-fits
rounds-requires-clause-fits g c k d lt = (c.clear_levels.ensures.blank _ c.requires.fits k d lt).fits
