use Rattle.std.proofs.Common.{◌∙◌, ap, length}
use Rattle.service_day.specs.DayTrips.{starts_from}
use Rattle.service_day.proofs.GatherLemmas.{count-copies}
use Rattle.service_day.proofs.count.count_copies.Goals as goal

pub returns : goal.returns
returns c =
    let row = c.args.row.now in
    c.starts_left.ensures ∙ ap (λ start. length (starts_from row.headway start row.end)) c.first_start.ensures
    ∙ count-copies c.args.night c.args.trip.now c.earliest_start.result row.headway row.start row.end c.earliest_start.ensures c.requires.steps
