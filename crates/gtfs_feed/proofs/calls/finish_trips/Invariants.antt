use Rattle.std.proofs.Common.{◌≡◌, ℕ, ◌≤◌, ◌<◌, List, length, All, Vec, Global, None, get_or}
use Rattle.trip_calls.specs.declared.kept.KeptCall.{KeptCall}
use Rattle.gtfs_feed.specs.declared.feed.FeedTrip.{FeedTrip}
use Rattle.gtfs_feed.specs.Feed.{IsFeedTrip}
use Rattle.gtfs_feed.specs.Kept.{AreKept, IsBareTrip}
use Rattle.gtfs_feed.specs.TripRules.{IsListOf, AreOutcomes, IsFinished}
use Rattle.gtfs_feed.proofs.calls.finish_trips.Given as goal

abbrev pub invariant-loop-place : goal.invariant-loop-place
invariant-loop-place l = record {
  long : length l.kept.items ≡ length l.trips.items;
  same : length l.trips.items ≡ length l.initial.trips.items;
  kept : AreKept l.stops 50000000 l.kept.items;
  rest : (k : ℕ) (d : FeedTrip) → l.place ≤ k → get_or l.trips.items k d ≡ get_or l.initial.trips.items k d;
  untouched : (k : ℕ) (d : Vec KeptCall Global) → l.place ≤ k → get_or l.kept.items k d ≡ get_or l.fn.kept.items k d;
  outcomes : (calls : ℕ → List KeptCall) → IsListOf l.fn.kept.items calls → AreOutcomes calls l.place l.fault;
  trips : (calls : ℕ → List KeptCall) → IsListOf l.fn.kept.items calls → l.fault ≡ None → (k : ℕ) (d : FeedTrip) → k < l.place
      → IsFinished (calls k) (get_or l.initial.trips.items k d) (get_or l.trips.items k d);
  finished : (services : ℕ) → All (IsBareTrip services) l.initial.trips.items
      → (k : ℕ) (d : FeedTrip) → k < l.place → IsFeedTrip l.stops services (get_or l.trips.items k d);
}
