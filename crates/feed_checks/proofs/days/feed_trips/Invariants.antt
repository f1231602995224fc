use Rattle.std.proofs.Common.{◌≡◌, ◌<◌, length}
use Rattle.std.specs.Prelude.{All}
use Rattle.gtfs_feed.specs.Feed.{IsFeedTrip}
use Rattle.feed_checks.proofs.days.feed_trips.Given as goal

abbrev pub invariant-loop-calls : goal.invariant-loop-calls
invariant-loop-calls l = All (IsFeedTrip 2 1) l.list × All (λ trip. length trip.calls < 100) l.list × (length l.list ≡ l.calls-index)
