-- What all levels together stand for, at one second.
--     BoardsAt first d before x second     when the passenger may board at stop x: by the first row, or as the level before knows
--     IsFollowed table first d below level     nothing better comes of a ride from there
--     IsWalked list below level            nor of a transfer from where a ride is left
--     IsClosed table first last list d levels     so it is at each level, and the best arrivals cover all labels
--     IsBetween table .. k better levels   before round k this is so, but for rides from the marked stops to the k-th level
--     AreSound q levels                    each level is sound
--     ServedAt levels k x a                a label at stop x, or a best arrival, of one of the levels up to the k-th is no later than a
--     IsChain levels k y rides             the rides to the label of stop y at the k-th level, the last first
--     MarksSeeds table first d seeds       each stop where a row that goes on is just caught by who leaves at second d is marked
--     IsBlank stops level                  the level tells of no journey
use Rattle.std.specs.Prelude.{◌≡◌, ℕ, suc, ◌+◌, ◌-◌, ◌^◌, ◌<◌, ◌≤◌, Bool, true, false, IsTrue, List, [], ◌∷◌, length, take, slice_get, slice_index, slice_index_or, Option, Some, None}
use Rattle.move_model.specs.declared.network.StopNo.{StopNo}
use Rattle.move_model.specs.declared.journey.Ride.{Ride}
use Rattle.move_model.specs.declared.journey.Shortcut.{Shortcut}
use Rattle.move_model.specs.Listed.{HasTransfer}
use Rattle.route_split.specs.declared.place.Place.{Place}
use Rattle.route_split.specs.Route.{Route, departures_of}
use Rattle.route_split.specs.Table.{Table}
use Rattle.raptor_rounds.specs.Ways.{Query}
use Rattle.range_lanes.specs.declared.level.Step.{Step}
use Rattle.range_lanes.specs.declared.level.Level.{Level}
use Rattle.range_lanes.specs.Levels.{Serves, Exploited, Reached, Covers, Fits, IsSound}

abbrev pub BoardsAt : List (Option ℕ) → ℕ → Option Level → ℕ → ℕ → Type 0
BoardsAt first d None x second = (m : ℕ) × (slice_get first x ≡ Some (Some m)) × (second ≡ d + m)
BoardsAt first d (Some level) x second = second ≡ slice_index level.ready.items x

pub record IsFollowed (table : Table) (first : List (Option ℕ)) (d : ℕ) (below : List Level) (level : Level) : Type 0 where
  pub each : (r i second : ℕ) (route : Route) (place : Place) → slice_get table.routes r ≡ Some route → slice_get route.places i ≡ Some place
      → BoardsAt first d (slice_get below (length below - 1)) place.stop.0 second → Exploited below level route table.buffer i second

pub record IsWalked (list : List Shortcut) (below : List Level) (level : Level) : Type 0 where
  pub each : (y x : StopNo) (m : ℕ) → HasTransfer list y x m → slice_index level.left.items y.0 < 2 ^ 32 - 1
      → Reached below level x.0 (slice_index level.left.items y.0 + m)

pub record IsClosedAt (table : Table) (first last : List (Option ℕ)) (list : List Shortcut) (d : ℕ) (below : List Level) (level : Level) : Type 0 where
  pub followed : IsFollowed table first d below level
  pub walked : IsWalked list below level
  pub covers : Covers last level

pub record IsClosed (table : Table) (first last : List (Option ℕ)) (list : List Shortcut) (d : ℕ) (levels : List Level) : Type 0 where
  pub each : (k : ℕ) (level : Level) → slice_get levels k ≡ Some level → IsClosedAt table first last list d (take k levels) level

pub record AreSound (q : Query) (levels : List Level) : Type 0 where
  pub each : (k : ℕ) (level : Level) → slice_get levels k ≡ Some level → IsSound q (take k levels) level

pub record ServedAt (levels : List Level) (k x a : ℕ) : Type 0 where
  pub place : ℕ
  pub level : Level
  pub is_level : slice_get levels place ≡ Some level
  pub within : place ≤ k
  pub serves : Serves level x a

-- the rides to a label, the last first
pub data IsChain (levels : List Level) : ℕ → StopNo → List Ride → Type 0 where
  first : {level : Level} {step : Step} {y : StopNo} → slice_get levels 0 ≡ Some level → slice_get level.steps.items y.0 ≡ Some step
      → IsChain levels 0 y (step.ride ∷ [])
  next : {k : ℕ} {level : Level} {step : Step} {y : StopNo} {rides : List Ride} → slice_get levels (suc k) ≡ Some level
      → slice_get level.steps.items y.0 ≡ Some step → IsChain levels k step.from rides → IsChain levels (suc k) y (step.ride ∷ rides)

-- Before round k, in which rides are boarded for the k-th level: all is as it should be, but that at the marked stops
-- what comes of the level before is not yet known.
pub record IsBetween (table : Table) (first last : List (Option ℕ)) (list : List Shortcut) (d k : ℕ) (better : List Bool) (levels : List Level) : Type 0 where
  pub followed : (j r i second : ℕ) (level : Level) (route : Route) (place : Place) → slice_get levels j ≡ Some level
      → slice_get table.routes r ≡ Some route → slice_get route.places i ≡ Some place
      → BoardsAt first d (slice_get (take j levels) (length (take j levels) - 1)) place.stop.0 second
      → (j ≡ k → slice_index_or better place.stop.0 false ≡ false)
      → Exploited (take j levels) level route table.buffer i second
  pub walked : (j : ℕ) (level : Level) → slice_get levels j ≡ Some level → IsWalked list (take j levels) level
  pub covers : (j : ℕ) (level : Level) → slice_get levels j ≡ Some level → Covers last level

-- who leaves one second later misses these rows
pub record MarksSeeds (table : Table) (first : List (Option ℕ)) (d : ℕ) (seeds : List Bool) : Type 0 where
  pub each : (r i m p : ℕ) (route : Route) (place : Place) → slice_get table.routes r ≡ Some route → slice_get route.places i ≡ Some place
      → IsTrue place.board → i + 1 < length route.places → p < length route.trips → slice_get first place.stop.0 ≡ Some (Some m)
      → slice_index (departures_of route i) p ≡ d + m + table.buffer → slice_index_or seeds place.stop.0 false ≡ true

pub record IsBlank (stops : ℕ) (level : Level) : Type 0 where
  pub left : (x : ℕ) → x < stops → 2 ^ 32 - 1 ≤ slice_index level.left.items x
  pub ready : (x : ℕ) → x < stops → 2 ^ 32 - 1 ≤ slice_index level.ready.items x
  pub best : 2 ^ 64 - 1 ≤ level.best
  pub fits : Fits stops level
