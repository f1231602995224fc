use Rattle.std.proofs.Common.{◌≤◌, ◌<◌, length, ◌∙◌, arith}
use Rattle.std.specs.Prelude.{All}
use Rattle.gtfs_feed.specs.Feed.{IsFeedTrip}
use Rattle.gtfs_feed.specs.declared.feed.CopyRow.{CopyRow}
use Rattle.service_day.proofs.GatherLemmas.{rising, rows_step}
use Rattle.service_day.proofs.BoundLemmas.{few_trips, few_given}
use Rattle.service_day.proofs.count.count_trips.Goals as goal

pub count_trip-count-requires-clause-rising : goal.count_trip-count-requires-clause-rising
count_trip-count-requires-clause-rising c =
    let feed = c.args.feed.now in
    let trip = c.index-trips-i-then-runs_in.result in
    let low : c.loop-i.i < length feed.trips = rw c.as_slice-trips.ensures at c.loop-i-test.true in
    let is = rw c.as_slice-trips.ensures at c.index-trips-i-then-runs_in.is in
    let good : IsFeedTrip (length feed.stops) (length feed.services) trip = rw is (c.requires.feed.trips_go c.loop-i.i trip low) in
    rising (length feed.stops) (length feed.services) trip good

pub count_trip-count-requires-clause-steps : goal.count_trip-count-requires-clause-steps
count_trip-count-requires-clause-steps c =
    let feed = c.args.feed.now in
    let step : All (λ (row : CopyRow). 1 ≤ row.headway) c.named_rows.result.now =
    rw (c.named_rows.ensures ∙ c.requires.same c.loop-i.i) (rows_step feed.trips feed.copies c.loop-i.i c.requires.feed.copies_leave) in
    step

pub count_trip-count-requires-clause-few : goal.count_trip-count-requires-clause-few
count_trip-count-requires-clause-few c =
    rw (c.named_rows.ensures ∙ c.requires.same c.loop-i.i) (few_given c.args.night c.args.feed.now c.loop-i.i c.index-trips-i-then-runs_in.result c.requires.feed)

pub overflow_add-count : goal.overflow_add-count
overflow_add-count c = omega (arith, c.loop-i.invariant, c.count_trip-count.ensures.bound, few_trips c.args.night c.args.feed.now c.args.set.now c.requires.feed)

pub returns-clause-bound : goal.returns-clause-bound
returns-clause-bound c = omega (arith, c.loop-i.invariant, few_trips c.args.night c.args.feed.now c.args.set.now c.requires.feed)
