-- What is known of journeys that leave at one second or later, by their number of rides.
--     Serves level y a                 a label at stop y, or the best arrival, is no later than second a
--     Served below level y a           so it is at this level or at one below
--     Reached below level x r          at this level or at one below the passenger is ready at stop x, or arrives, by second r
--     BestWithin below level a         the best arrival of this level or of one below is no later than a
--     IsBound below bound              no arrival at or after the bound is better than the best ones below
--     Ridden below level route i p     who rides the row from its i-th call on finds nothing better
--     Boarded below level route buffer i second    nor who boards there, ready at that second
--     Exploited below level route buffer i second  nor any better than the best arrivals
--     Falls old new                    labels and the best arrival only fall
--     LeftFalls old new fresh          the same, with the stops where a label fell marked as fresh
--     ReadyFalls old new better        seconds at which the passenger is ready fall, and the stops where one fell are marked as better
--     Covers last level                the best arrival is no later than from any label
--     Fits stops level                 the vectors are as long as there are stops
--     Catches q below step on          the step's ride is boarded in time from the level before
--     StartsFrom q below x second from whoever boards at stop x from that second on is in time
--     Arrives q below y a step         it is, and is left at stop y by second a
--     IsOnRow q below route hold       a row that is held is boarded in time
--     IsSound q below level            each label of the level stands for a listed journey
use Rattle.std.specs.Prelude.{◌≡◌, ℕ, ◌+◌, ◌-◌, ◌^◌, ◌<◌, ◌≤◌, ◌⊎◌, IsTrue, true, false, Bool, List, length, slice_get, slice_index, slice_index_or, Contains, Option, Some, None, vec_len}
use Rattle.move_model.specs.declared.network.StopNo.{StopNo}
use Rattle.move_model.specs.Listed.{HasEntry, HasTransfer}
use Rattle.move_model.specs.declared.network.Call.{Call}
use Rattle.move_model.specs.declared.network.TripNo.{TripNo}
use Rattle.move_model.specs.Journey.{IsRide}
use Rattle.route_split.specs.declared.place.Place.{Place}
use Rattle.route_split.specs.Route.{Route, arrivals_of, departures_of}
use Rattle.route_split.specs.Calls.{call_of}
use Rattle.raptor_rounds.specs.Ways.{Query}
use Rattle.range_lanes.specs.declared.ride.Hold.{Hold}
use Rattle.range_lanes.specs.declared.level.Step.{Step}
use Rattle.range_lanes.specs.declared.level.Level.{Level}

abbrev pub Serves : Level → ℕ → ℕ → Type 0
Serves level y a = (slice_index level.left.items y ≤ a) ⊎ (level.best ≤ a)

pub data Served (below : List Level) (level : Level) (y a : ℕ) : Type 0 where
  here : Serves level y a → Served below level y a
  there : (l : Level) → Contains below l → Serves l y a → Served below level y a

pub data BestWithin (below : List Level) (level : Level) (a : ℕ) : Type 0 where
  here : level.best ≤ a → BestWithin below level a
  there : (l : Level) → Contains below l → l.best ≤ a → BestWithin below level a

pub data Reached (below : List Level) (level : Level) (x r : ℕ) : Type 0 where
  here : (slice_index level.ready.items x ≤ r) ⊎ (level.best ≤ r) → Reached below level x r
  there : (l : Level) → Contains below l → (slice_index l.ready.items x ≤ r) ⊎ (l.best ≤ r) → Reached below level x r

pub record IsBound (below : List Level) (bound : ℕ) : Type 0 where
  pub each : (a : ℕ) → a < 2 ^ 64 - 1 → bound ≤ a → (l : Level) × (Contains below l) × (l.best ≤ a)

pub record Ridden (below : List Level) (level : Level) (route : Route) (i p : ℕ) : Type 0 where
  pub each : (j : ℕ) (off : Place) → i < j → slice_get route.places j ≡ Some off → IsTrue off.alight
      → Served below level off.stop.0 (slice_index (arrivals_of route j) p)

pub record Boarded (below : List Level) (level : Level) (route : Route) (buffer i second : ℕ) : Type 0 where
  pub each : (on : Place) (p : ℕ) → slice_get route.places i ≡ Some on → IsTrue on.board → p < length route.trips
      → second + buffer ≤ slice_index (departures_of route i) p → Ridden below level route i p

-- nor who boards there and does not arrive before the row departs
pub record Exploited (below : List Level) (level : Level) (route : Route) (buffer i second : ℕ) : Type 0 where
  pub each : (on : Place) (p : ℕ) → slice_get route.places i ≡ Some on → IsTrue on.board → p < length route.trips
      → second + buffer ≤ slice_index (departures_of route i) p → BestWithin below level (slice_index (departures_of route i) p) ⊎ Ridden below level route i p

pub record Falls (old new : Level) : Type 0 where
  pub left : (x : ℕ) → slice_index new.left.items x ≤ slice_index old.left.items x
  pub ready : (x : ℕ) → slice_index new.ready.items x ≤ slice_index old.ready.items x
  pub best : new.best ≤ old.best

pub record LeftFalls (old new : Level) (fresh fresh' : List Bool) : Type 0 where
  pub falls : Falls old new
  pub left_length : vec_len new.left ≡ vec_len old.left
  pub steps_length : vec_len new.steps ≡ vec_len old.steps
  pub ready_same : new.ready ≡ old.ready
  pub from_same : new.from ≡ old.from
  pub fresh_length : length fresh' ≡ length fresh
  pub fresh_stays : (x : ℕ) → slice_index_or fresh x false ≡ true → slice_index_or fresh' x false ≡ true
  pub others_stay : (x : ℕ) → slice_index_or fresh' x false ≡ false → slice_index new.left.items x ≡ slice_index old.left.items x
  pub sure : (x : ℕ) → slice_index_or fresh' x false ≡ true → (slice_index_or fresh x false ≡ true) ⊎ (slice_index new.left.items x < 2 ^ 32 - 1)

pub record ReadyFalls (old new : Level) (better better' : List Bool) : Type 0 where
  pub falls : Falls old new
  pub ready_length : vec_len new.ready ≡ vec_len old.ready
  pub from_length : vec_len new.from ≡ vec_len old.from
  pub left_same : new.left ≡ old.left
  pub steps_same : new.steps ≡ old.steps
  pub best_same : new.best ≡ old.best
  pub best_stop_same : new.best_stop ≡ old.best_stop
  pub better_length : length better' ≡ length better
  pub better_stays : (x : ℕ) → slice_index_or better x false ≡ true → slice_index_or better' x false ≡ true
  pub others_stay : (x : ℕ) → slice_index_or better' x false ≡ false → slice_index new.ready.items x ≡ slice_index old.ready.items x

pub record Covers (last : List (Option ℕ)) (level : Level) : Type 0 where
  pub each : (y : StopNo) (m : ℕ) → slice_index level.left.items y.0 < 2 ^ 32 - 1 → HasEntry last y m → level.best ≤ slice_index level.left.items y.0 + m

pub record Fits (stops : ℕ) (level : Level) : Type 0 where
  pub left : vec_len level.left ≡ stops
  pub steps : vec_len level.steps ≡ stops
  pub ready : vec_len level.ready ≡ stops
  pub from : vec_len level.from ≡ stops

-- a first ride is boarded in time by who walks by the first row; another by who left a ride at the step's stop
abbrev pub CatchesFrom : Query → Option Level → Step → Call → Type 0
CatchesFrom q None step on = (m : ℕ) × HasEntry q.first on.stop m × (q.depart + m + q.network.buffer ≤ on.dep)
CatchesFrom q (Some level) step on =
    (m : ℕ) × HasTransfer q.list step.from on.stop m × (slice_index level.left.items step.from.0 < 2 ^ 32 - 1)
    × (slice_index level.left.items step.from.0 + m + q.network.buffer ≤ on.dep)

-- by the level before
abbrev pub Catches : Query → List Level → Step → Call → Type 0
Catches q below step on = CatchesFrom q (slice_get below (length below - 1)) step on

-- the step's ride is caught, and left at stop y by second a
pub record Arrives (q : Query) (below : List Level) (y : StopNo) (a : ℕ) (step : Step) : Type 0 where
  pub on : Call
  pub off : Call
  pub is_ride : IsRide q.network step.ride on off
  pub stop_is : off.stop ≡ y
  pub by_second : off.arr ≤ a
  pub catches : Catches q below step on

-- whoever boards at the stop x from that second on is in time, and left the ride before, if there was one, at `from`
pub record StartsFrom (q : Query) (below : List Level) (x : StopNo) (second : ℕ) (from : StopNo) : Type 0 where
  pub each : (step : Step) (on : Call) → step.from ≡ from → on.stop ≡ x → second + q.network.buffer ≤ on.dep → Catches q below step on

-- who left a ride at the stop z is ready at x by second r
pub record WalksBy (q : Query) (level : Level) (z x : StopNo) (r : ℕ) : Type 0 where
  pub seconds : ℕ
  pub transfer : HasTransfer q.list z x seconds
  pub left : slice_index level.left.items z.0 < 2 ^ 32 - 1
  pub by_second : slice_index level.left.items z.0 + seconds ≤ r

pub record EndsBy (q : Query) (level : Level) (z : StopNo) (a : ℕ) : Type 0 where
  pub seconds : ℕ
  pub walk : HasEntry q.last z seconds
  pub left : slice_index level.left.items z.0 < 2 ^ 32 - 1
  pub by_second : slice_index level.left.items z.0 + seconds ≤ a

-- the best arrival is the old one, or comes by the last row's walk from a stop that is left at this second
pub data IsBestFrom (last : List (Option ℕ)) (old new : Level) (stop : StopNo) (second : ℕ) : Type 0 where
  stays : new.best ≡ old.best → new.best_stop ≡ old.best_stop → IsBestFrom last old new stop second
  comes : (m : ℕ) → HasEntry last stop m → new.best ≡ second + m → new.best_stop ≡ stop → IsBestFrom last old new stop second

-- whoever is ready at a stop has walked there from where a ride is left
pub record IsReadySound (q : Query) (level : Level) : Type 0 where
  pub each : (x z : StopNo) → slice_get level.from.items x.0 ≡ Some z → slice_index level.ready.items x.0 < 2 ^ 32 - 1
      → WalksBy q level z x (slice_index level.ready.items x.0)

-- each label is that of a listed journey which leaves at the query's second or later
pub record IsSound (q : Query) (below : List Level) (level : Level) : Type 0 where
  pub left : (y : StopNo) (step : Step) → slice_get level.steps.items y.0 ≡ Some step → slice_index level.left.items y.0 < 2 ^ 32 - 1
      → Arrives q below y (slice_index level.left.items y.0) step
  pub ready : IsReadySound q level
  pub best : level.best < 2 ^ 64 - 1 → EndsBy q level level.best_stop level.best

abbrev pub step_on : Hold → TripNo → ℕ → Step
step_on hold trip call = record { ride = record { trip = trip; board = hold.on; alight = call }; from = hold.from }

-- a row that is held may be boarded where it is, and is in time there
pub record IsOnRow (q : Query) (below : List Level) (route : Route) (hold : Hold) : Type 0 where
  pub place : Place
  pub is_place : slice_get route.places hold.on ≡ Some place
  pub may_board : IsTrue place.board
  pub catches : (step : Step) → step.from ≡ hold.from → Catches q below step (call_of route hold.row hold.on place)
