use Rattle.gtfs_feed.proofs.StopsTable.{once}
use Rattle.gtfs_feed.proofs.stops.StopTable.add.Goals as goal

pub push_other-requires-clause-new : goal.push_other-requires-clause-new
push_other-requires-clause-new c = rw c.cell-id.ensures (once _ _ _ c.in_ok-position.ensures.0).1

pub push-requires-clause-named : goal.push-requires-clause-named
push-requires-clause-named c = rw c.cell-id.ensures (once _ _ _ c.in_ok-position.ensures.0).0

pub push-requires-clause-new : goal.push-requires-clause-new
push-requires-clause-new c = rw c.cell-id.ensures (once _ _ _ c.in_ok-position.ensures.0).1
