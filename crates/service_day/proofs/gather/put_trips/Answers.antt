use Rattle.std.proofs.Common.{◌≤◌, ◌<◌, length, ◌∙◌}
use Rattle.std.specs.Prelude.{All}
use Rattle.gtfs_feed.specs.Feed.{IsFeedTrip}
use Rattle.gtfs_feed.specs.declared.feed.CopyRow.{CopyRow}
use Rattle.service_day.proofs.GatherLemmas.{rising, rows_step}
use Rattle.service_day.proofs.gather.put_trips.Goals as goal

pub put_trip-requires-clause-rising : goal.put_trip-requires-clause-rising
put_trip-requires-clause-rising c =
    let feed = c.args.feed.now in
    let trip = c.index-trips-i-then-runs_in.result in
    let low : c.loop-i.i < length feed.trips = rw c.as_slice-trips.ensures at c.loop-i-test.true in
    let is = rw c.as_slice-trips.ensures at c.index-trips-i-then-runs_in.is in
    let good : IsFeedTrip (length feed.stops) (length feed.services) trip = rw is (c.requires.feed.trips_go c.loop-i.i trip low) in
    rising (length feed.stops) (length feed.services) trip good

pub put_trip-requires-clause-steps : goal.put_trip-requires-clause-steps
put_trip-requires-clause-steps c =
    let feed = c.args.feed.now in
    let step : All (λ (row : CopyRow). 1 ≤ row.headway) c.named_rows.result.now =
    rw (c.named_rows.ensures ∙ c.requires.same c.loop-i.i) (rows_step feed.trips feed.copies c.loop-i.i c.requires.feed.copies_leave) in
    step
