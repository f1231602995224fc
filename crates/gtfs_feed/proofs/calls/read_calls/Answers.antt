use Rattle.gtfs_feed.specs.Calls.{trip_calls}
use Rattle.gtfs_feed.specs.KeptCalls.{rows_in}
use Rattle.gtfs_feed.proofs.calls.read_calls.Goals as goal

pub returns-in-Ok-None-clause-trips : goal.returns-in-Ok-None-clause-trips
returns-in-Ok-None-clause-trips c =
    c.in-Ok-None.ensures.trips (trip_calls (rows_in c.args.stops.now) c.args.table.now.names c.args.bytes.now) c.in_ok-kept.ensures.calls c.in-Ok-None.field-0-is
