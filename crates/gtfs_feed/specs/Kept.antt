-- What the tables keep while they are read.
--     IsStopTable table          its stops stand, differ in name, and have the numbers that it gives
--     IsServiceTable table       its services have ids, and as many names
--     IsTripTable table n        its trips have ids and services below n, and as many names
--     AreKept n rows kept        the calls of each trip, of so many rows, are at stops below n and at seconds of a time
--     IsRising calls             no second falls from call to call
use Rattle.std.specs.Prelude.{◌≡◌, ◌≢◌, ℕ, ◌<◌, ◌≤◌, List, [], length, All, AllPairs, Contains, Vec, IfSome}
use Rattle.std.specs.declared.alloc.Global.{Global}
use Rattle.std.specs.List.{AllAdjacentBelow}
use Rattle.move_model.specs.declared.network.Call.{Call}
use Rattle.trip_calls.specs.declared.kept.KeptCall.{KeptCall}
use Rattle.trip_calls.specs.Filled.{IsInTime}
use Rattle.gtfs_feed.specs.declared.feed.FeedTrip.{FeedTrip}
use Rattle.gtfs_feed.specs.declared.stops.StopTable.{StopTable}
use Rattle.gtfs_feed.specs.declared.services.ServiceTable.{ServiceTable}
use Rattle.gtfs_feed.specs.declared.trips.TripTable.{TripTable}
use Rattle.gtfs_feed.specs.Feed.{IsId, IsFeedStop}

pub record IsStopTable (table : StopTable) : Type 0 where
  pub stand : All IsFeedStop table.stops
  pub differ : AllPairs (λ stop other. stop.name ≢ other.name) table.stops
  pub named : All (λ stop. Contains table.names stop.name) table.stops
  pub numbered : All (λ number. IfSome number (λ n. n < length table.stops)) table.numbers

pub record IsServiceTable (table : ServiceTable) : Type 0 where
  pub named : All (λ service. IsId service.name) table.services.items
  pub each : length table.names ≡ length table.services.items

-- a trip whose calls are not read yet
pub record IsBareTrip (services : ℕ) (trip : FeedTrip) : Type 0 where
  pub named : IsId trip.name
  pub served : IfSome trip.service (λ number. number < services)
  pub bare : trip.calls ≡ []

pub record IsTripTable (services : ℕ) (table : TripTable) : Type 0 where
  pub bare : All (IsBareTrip services) table.trips.items
  pub each : length table.names ≡ length table.trips.items

pub record IsKept (stops : ℕ) (call : KeptCall) : Type 0 where
  pub at_stop : call.stop.0 < stops
  pub in_time : IsInTime call

-- the calls of one trip, of so many rows
pub record IsKeptList (stops rows : ℕ) (calls : List KeptCall) : Type 0 where
  pub each : All (IsKept stops) calls
  pub few : length calls ≤ rows

abbrev pub AreKept : ℕ → ℕ → List (Vec KeptCall Global) → Type 0
AreKept stops rows kept = All (λ calls. IsKeptList stops rows calls.items) kept

-- no second falls in a list of calls
pub record IsRising (calls : List Call) : Type 0 where
  pub stays : All (λ call. call.arr ≤ call.dep) calls
  pub goes_on : AllAdjacentBelow (λ call next. call.dep ≤ next.arr) calls (length calls)
