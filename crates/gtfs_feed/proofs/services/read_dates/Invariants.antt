use Rattle.std.proofs.Common.{length}
use Rattle.gtfs_feed.proofs.DatesTable.{DatesProgress}
use Rattle.gtfs_feed.proofs.services.read_dates.Given as goal

abbrev pub invariant-rows : goal.invariant-rows
invariant-rows l = DatesProgress l.bytes l.initial.table.services.items l.file l.table

abbrev pub decreases-rows : goal.decreases-rows
decreases-rows l = length l.file.rows
