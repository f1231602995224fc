use Rattle.std.proofs.Common.{length}
use Rattle.gtfs_feed.proofs.CalendarTable.{CalendarProgress}
use Rattle.gtfs_feed.proofs.services.read_calendar.Given as goal

abbrev pub invariant-rows : goal.invariant-rows
invariant-rows l = CalendarProgress l.bytes l.file l.table

abbrev pub decreases-rows : goal.decreases-rows
decreases-rows l = length l.file.rows
