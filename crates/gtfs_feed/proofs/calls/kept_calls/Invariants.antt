use Rattle.std.proofs.Common.{length}
use Rattle.gtfs_feed.specs.KeptCalls.{rows_in}
use Rattle.gtfs_feed.proofs.CallsTable.{CallsProgress}
use Rattle.gtfs_feed.proofs.calls.kept_calls.Given as goal

abbrev pub invariant-rows : goal.invariant-rows
invariant-rows l = CallsProgress l.bytes (rows_in l.stops) l.table.names (length l.stops.stops) l.file l.kept.items

abbrev pub decreases-rows : goal.decreases-rows
decreases-rows l = length l.file.rows
