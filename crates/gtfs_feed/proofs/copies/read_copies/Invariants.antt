use Rattle.std.proofs.Common.{length}
use Rattle.gtfs_feed.proofs.CopiesTable.{CopiesProgress}
use Rattle.gtfs_feed.proofs.copies.read_copies.Given as goal

abbrev pub invariant-rows : goal.invariant-rows
invariant-rows l = CopiesProgress l.bytes l.table.names l.table.trips.items l.file l.copies

abbrev pub decreases-rows : goal.decreases-rows
decreases-rows l = length l.file.rows
