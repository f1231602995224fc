-- What every feed that was read keeps.
--     IsFeed feed                each service, trip and stop that is named by number exists, and seconds never fall
--     IsId name                  a name has 1 to 255 bytes
--     IsCopyStart row second     a copy of the row's trip leaves at this second
use Rattle.std.specs.Prelude.{◌≡◌, ◌≢◌, ℕ, ◌+◌, ◌-◌, ◌*◌, ◌<◌, ◌≤◌, List, [], ◌∷◌, length, slice_get, All, AllPairs, Some, IfSome, is_some}
use Rattle.std.specs.List.{AllAdjacentBelow}
use Rattle.move_model.specs.declared.network.Call.{Call}
use Rattle.gtfs_feed.specs.declared.feed.Feed.{Feed}
use Rattle.gtfs_feed.specs.declared.feed.FeedStop.{FeedStop}
use Rattle.gtfs_feed.specs.declared.feed.FeedTrip.{FeedTrip}
use Rattle.gtfs_feed.specs.declared.feed.CopyRow.{CopyRow}

-- the last second of a time, 999:59:59
abbrev pub last_second : ℕ
last_second = 3599999

pub record IsId (name : List ℕ) : Type 0 where
  pub some : 1 ≤ length name
  pub few : length name ≤ 255

-- a stop has an id, its row, and both coordinates or neither
pub record IsFeedStop (stop : FeedStop) : Type 0 where
  pub named : IsId stop.name
  pub placed : is_some stop.lat ≡ is_some stop.lon
  pub in_file : (1 ≤ stop.row) × (stop.row ≤ 50000000)

-- no call or two calls and more, each at a stop, and no second before an earlier one
pub record IsFeedTrip (stops services : ℕ) (trip : FeedTrip) : Type 0 where
  pub named : IsId trip.name
  pub served : IfSome trip.service (λ number. number < services)
  pub never_one : length trip.calls ≢ 1
  pub few_calls : length trip.calls ≤ 50000000
  pub at_stops : All (λ call. call.stop.0 < stops) trip.calls
  pub stays : All (λ call. call.arr ≤ call.dep) trip.calls
  pub goes_on : AllAdjacentBelow (λ call next. call.dep ≤ next.arr) trip.calls (length trip.calls)
  pub in_time : All (λ call. call.dep ≤ last_second) trip.calls

-- a copy leaves at start, and then every headway seconds before end
pub record IsCopyStart (row : CopyRow) (second : ℕ) : Type 0 where
  pub turn : ℕ
  pub leaves : second ≡ row.start + turn * row.headway
  pub before_end : second < row.end

-- the departure of a trip's first call
abbrev pub first_departure : List Call → ℕ
first_departure [] = 0
first_departure (call ∷ calls) = call.dep

-- the row names a trip, and each call of each copy has a second of a time
pub record IsCopyRow (trips : List FeedTrip) (row : CopyRow) : Type 0 where
  pub of_trip : row.trip < length trips
  pub times : (row.start ≤ last_second) × (row.end ≤ last_second)
  pub steps : 1 ≤ row.headway
  pub in_time : (trip : FeedTrip) (second : ℕ) → slice_get trips row.trip ≡ Some trip → IsCopyStart row second
      → All (λ call. second + (call.dep - first_departure trip.calls) ≤ last_second) trip.calls

-- what every feed keeps
pub record IsFeed (feed : Feed) : Type 0 where
  pub stops_stand : All IsFeedStop feed.stops
  pub stops_differ : AllPairs (λ stop other. stop.name ≢ other.name) feed.stops
  pub few_stops : length feed.stops ≤ 200000
  pub services_named : All (λ service. IsId service.name) feed.services
  pub few_services : length feed.services ≤ 100000000
  pub trips_go : All (IsFeedTrip (length feed.stops) (length feed.services)) feed.trips
  pub few_trips : length feed.trips ≤ 50000000
  pub copies_leave : All (IsCopyRow feed.trips) feed.copies
  pub few_copies : length feed.copies ≤ 50000000
