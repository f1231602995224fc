use Rattle.gtfs_feed.proofs.TripsTable.{once}
use Rattle.gtfs_feed.proofs.trips.TripTable.add.Goals as goal

pub push-requires-clause-named : goal.push-requires-clause-named
push-requires-clause-named c = rw c.cell-id.ensures (once _ _ _ c.in_ok-test_row.ensures.0).0

pub push-requires-clause-new : goal.push-requires-clause-new
push-requires-clause-new c = rw c.cell-id.ensures (once _ _ _ c.in_ok-test_row.ensures.0).1
