-- What the feeds of the tests keep.
--     Goes calls                calls of a trip over two stops
--     EndsInTime calls row      the copies of the calls by the row end within a time
--     IsStopNamed name stop     a stop without coordinates, named by one byte
use Rattle.std.specs.Prelude.{◌≡◌, ℕ, ◌+◌, ◌-◌, ◌<◌, ◌≤◌, List, [], ◌∷◌, length, All}
use Rattle.std.specs.List.{AllAdjacentBelow}
use Rattle.move_model.specs.declared.network.Call.{Call}
use Rattle.gtfs_feed.specs.declared.feed.FeedStop.{FeedStop}
use Rattle.gtfs_feed.specs.declared.feed.CopyRow.{CopyRow}
use Rattle.gtfs_feed.specs.Feed.{IsFeedStop, first_departure, last_second}

pub record Goes (calls : List Call) : Type 0 where
  pub two_calls : 2 ≤ length calls
  pub few_calls : length calls < 100
  pub at_stops : All (λ call. call.stop.0 < 2) calls
  pub stays : All (λ call. call.arr ≤ call.dep) calls
  pub goes_on : AllAdjacentBelow (λ call next. call.dep ≤ next.arr) calls (length calls)
  pub in_time : All (λ call. call.dep ≤ last_second) calls

pub record EndsInTime (calls : List Call) (row : CopyRow) : Type 0 where
  pub times : (row.start ≤ last_second) × (row.end ≤ last_second)
  pub steps : 1 ≤ row.headway
  pub in_time : All (λ call. row.end + (call.dep - first_departure calls) ≤ last_second + 1) calls

pub record IsStopNamed (name : ℕ) (stop : FeedStop) : Type 0 where
  pub is_stop : IsFeedStop stop
  pub named : stop.name ≡ name ∷ []
