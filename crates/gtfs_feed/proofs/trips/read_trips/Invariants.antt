use Rattle.std.proofs.Common.{length}
use Rattle.gtfs_feed.proofs.TripsTable.{TripsProgress}
use Rattle.gtfs_feed.proofs.trips.read_trips.Given as goal

abbrev pub invariant-rows : goal.invariant-rows
invariant-rows l = TripsProgress l.bytes l.services l.file l.table

abbrev pub decreases-rows : goal.decreases-rows
decreases-rows l = length l.file.rows
