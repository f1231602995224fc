use Rattle.std.proofs.Common.{length}
use Rattle.gtfs_feed.proofs.StopsTable.{StopsProgress}
use Rattle.gtfs_feed.proofs.stops.read_stops.Given as goal

abbrev pub invariant-rows : goal.invariant-rows
invariant-rows l = StopsProgress l.bytes l.file l.table

abbrev pub decreases-rows : goal.decreases-rows
decreases-rows l = length l.file.rows
