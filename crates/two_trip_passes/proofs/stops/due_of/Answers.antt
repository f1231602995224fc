use Rattle.two_trip_passes.proofs.StopLemmas.{due_found}
use Rattle.two_trip_passes.proofs.stops.due_of.Goals as goal

pub returns : goal.returns
returns c =
    let e = c.departs-departures.ensures.departs in
    let k = c.args.call in
    due_found c.args.route.now k c.after.result c.args.wanted c.row_from-row.result c.requires.timed c.requires.call
    (rw e at c.departs-departures.ensures.one_each) (rw e at c.row_from-row.ensures.within) (rw e at c.after.ensures) (rw e at c.row_from-row.ensures.there)
