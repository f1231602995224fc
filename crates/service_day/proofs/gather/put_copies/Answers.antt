use Rattle.std.proofs.Common.{◌∙◌, ◌++◌, ap, sym, List, [], ◌∷◌, ◌+◌}
use Rattle.std.specs.Prelude.{map}
use Rattle.move_model.specs.declared.network.Trip.{Trip}
use Rattle.service_day.specs.DayTrips.{starts_from, copy_at}
use Rattle.service_day.specs.Departure.{taken, trip_of}
use Rattle.service_day.proofs.GatherLemmas.{skip-first, put_copy, put_none}
use Rattle.service_day.proofs.gather.put_copies.Goals as goal

pub loop-start-init : goal.loop-start-init
loop-start-init c =
    let row = c.args.row.now in
    ap (λ start. map trip_of c.args.departures.now.items ++ taken c.args.night (map (copy_at c.args.trip.now) (starts_from row.headway start row.end))) c.first_start-start.ensures
    ∙ ap (λ (trips : List Trip). map trip_of c.args.departures.now.items ++ trips)
    (skip-first c.args.night c.args.trip.now c.earliest_start.result row.headway row.start row.end c.earliest_start.ensures c.requires.steps)

pub loop-start-preserved : goal.loop-start-preserved
loop-start-preserved c =
    let row = c.args.row.now in
    ap (λ headway. map trip_of c.put.new.departures.items ++ taken c.args.night (map (copy_at c.args.trip.now) (starts_from row.headway (c.loop-start.start + headway) row.end))) c.from-headway.ensures
    ∙ put_copy c.args.night c.args.trip.now row.headway c.loop-start.start row.end (map trip_of c.loop-start.departures.items) (map trip_of c.put.new.departures.items)
    c.requires.steps (rw c.from-end.ensures at c.loop-start-test.true)
    (c.in_ok-put.ensures ∙ ap (λ (trip : Trip). map trip_of c.loop-start.departures.items ++ taken c.args.night (trip ∷ [])) c.of_copy.ensures.same)
    ∙ c.loop-start.invariant

pub returns : goal.returns
returns c =
    let row = c.args.row.now in
    sym (put_none c.args.night c.args.trip.now row.headway c.loop-start.start row.end (map trip_of c.loop-start.departures.items) (rw c.from-end.ensures at c.loop-start-test.false))
    ∙ c.loop-start.invariant
