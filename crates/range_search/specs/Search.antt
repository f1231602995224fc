-- A search from the last second of a window to its first.
--     CatchesListed table first d stops ds next    at each stop where a row that goes on is just caught at second d, the stops have it, and d is the next departure
--     IsRowCaught table first d stop    a row that goes on from the stop is just caught there by who leaves at second d
--     HasDone ds next d now         where second d is the next departure, one more is done
--     HasOpened next now lent lent' opens opens'    what a second may open
use Rattle.std.specs.Prelude.{◌≡◌, ℕ, ◌+◌, ◌<◌, ◌%◌, IsTrue, List, length, slice_get, slice_index, Contains, Option, Some}
use Rattle.move_model.specs.declared.network.StopNo.{StopNo}
use Rattle.route_split.specs.declared.place.Place.{Place}
use Rattle.route_split.specs.Route.{Route, departures_of}
use Rattle.route_split.specs.Table.{Table}

-- a row that goes on from the stop is just caught there by who leaves at second d
pub record IsRowCaught (table : Table) (first_row : List (Option ℕ)) (d : ℕ) (stop : StopNo) : Type 0 where
  pub r : ℕ
  pub i : ℕ
  pub p : ℕ
  pub seconds : ℕ
  pub route : Route
  pub place : Place
  pub is_route : slice_get table.routes r ≡ Some route
  pub is_place : slice_get route.places i ≡ Some place
  pub may_board : IsTrue place.board
  pub goes_on : i + 1 < length route.places
  pub is_row : p < length route.trips
  pub walk : slice_get first_row place.stop.0 ≡ Some (Some seconds)
  pub departs : slice_index (departures_of route i) p ≡ d + seconds + table.buffer
  pub stop_is : place.stop ≡ stop

pub record CatchesListed (table : Table) (first_row : List (Option ℕ)) (d : ℕ) (stops : List StopNo) (ds : List ℕ) (next : ℕ) : Type 0 where
  pub each : (stop : StopNo) → IsRowCaught table first_row d stop → Contains stops stop × (slice_get ds next ≡ Some d)

-- the second is the next departure, and is done; or it is none
pub data HasDone (ds : List ℕ) (next d : ℕ) : ℕ → Type 0 where
  one : {now : ℕ} → slice_get ds next ≡ Some d → now ≡ next + 1 → HasDone ds next d now
  none : {now : ℕ} → (slice_get ds next ≡ Some d → ⊥) → now ≡ next → HasDone ds next d now

-- a departure opens what is open thereafter, beside what was open; the first of a group of eight closes that
pub data HasOpened (next : ℕ) : ℕ → ℕ → ℕ → ℕ → ℕ → Type 0 where
  group : {now lent lent' opens opens' : ℕ} → next % 8 ≡ 0 → now ≡ next + 1 → opens' ≡ opens + lent' → HasOpened next now lent lent' opens opens'
  goes_on : {now lent lent' opens opens' : ℕ} → 0 < next % 8 → now ≡ next + 1 → opens' + lent ≡ opens + lent' → HasOpened next now lent lent' opens opens'
  none : {now lent lent' opens opens' : ℕ} → now ≡ next → opens' ≡ opens → lent' ≡ lent → HasOpened next now lent lent' opens opens'
