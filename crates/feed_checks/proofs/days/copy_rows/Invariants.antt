use Rattle.std.proofs.Common.{◌≡◌, length}
use Rattle.std.specs.Prelude.{All}
use Rattle.gtfs_feed.specs.Feed.{IsCopyRow}
use Rattle.feed_checks.proofs.days.copy_rows.Given as goal

abbrev pub invariant-loop-row : goal.invariant-loop-row
invariant-loop-row l = All (IsCopyRow l.trips) l.list × (length l.list ≡ l.row-index)
