-- What the labels of stops stand for.
--     Scope                         a query, the slots of steps, how many of them count, and a number of rides
--     ReadyBy s x r by              some way with as many rides, found from `by`, is ready at x no later than r
--     LeftBy s x a step             some way with as many rides before the step's ride leaves it at x at second a
--     AllReady s seconds by         each second stands for a way
--     IsFound s found               each label stands for a way, and so does the best arrival
--     Covers last found             the best arrival is no later than from any label
--     Scanned route buffer ready left best i    no boarding at the i-th call before the best arrival is better than the labels
--     Falls old new                 labels and best only fall, and a label that fell is fresh
--     ReadyFalls old new            seconds only fall, and one that fell is marked as better
--     IsHeld route .. hold          the row departs in time from where the passenger is ready
--     AreSpans list n spans         each of the first n entries of a list stands in the span of its stop
--     Cleared old new, Unmarked old new    the same labels or seconds, none of them marked
use Rattle.std.specs.Prelude.{◌≡◌, ℕ, ◌+◌, ◌-◌, ◌^◌, ◌<◌, ◌≤◌, min, IsTrue, true, false, List, length, slice_get, slice_index, slice_index_or, Option, Some, vec_len}
use Rattle.move_model.specs.declared.network.StopNo.{StopNo}
use Rattle.move_model.specs.declared.journey.Ride.{Ride}
use Rattle.move_model.specs.declared.network.TripNo.{TripNo}
use Rattle.move_model.specs.declared.journey.Shortcut.{Shortcut}
use Rattle.raptor_rounds.specs.declared.scan.Hold.{Hold}
use Rattle.move_model.specs.Listed.{HasEntry}
use Rattle.route_split.specs.declared.place.Place.{Place}
use Rattle.route_split.specs.Route.{Route, arrivals_of, departures_of}
use Rattle.raptor_rounds.specs.declared.labels.Step.{Step}
use Rattle.raptor_rounds.specs.declared.labels.Found.{Found}
use Rattle.raptor_rounds.specs.declared.labels.Ready.{Ready}
use Rattle.raptor_rounds.specs.declared.entries.Spans.{Spans}
use Rattle.raptor_rounds.specs.Ways.{Query, IsReady, Leaves, HasChain}

pub record Scope : Type 0 where
  pub query : Query
  pub slots : List Step
  pub bound : ℕ
  pub many : ℕ

pub record ReadyBy (s : Scope) (x : StopNo) (r by : ℕ) : Type 0 where
  pub rides : List Ride
  pub chain : HasChain s.slots s.bound by rides
  pub few : length rides ≤ s.many
  pub second : ℕ
  pub no_later : second ≤ r
  pub is_ready : IsReady s.query rides x second

pub record LeftBy (s : Scope) (x : StopNo) (a : ℕ) (step : Step) : Type 0 where
  pub rides : List Ride
  pub chain : HasChain s.slots s.bound step.by rides
  pub few : length rides ≤ s.many
  pub leaves : Leaves s.query rides step.ride x a

pub record BestBy (s : Scope) (arrive : ℕ) (step : Step) : Type 0 where
  pub stop : StopNo
  pub second : ℕ
  pub walk : ℕ
  pub left : LeftBy s stop second step
  pub entry : HasEntry s.query.last stop walk
  pub sum_is : arrive ≡ second + walk

pub record AllReady (s : Scope) (seconds by : List ℕ) : Type 0 where
  pub each : (x : StopNo) → x.0 < length seconds → slice_index seconds x.0 < 2 ^ 32 - 1 → ReadyBy s x (slice_index seconds x.0) (slice_index by x.0)

pub record IsFound (s : Scope) (f : Found) : Type 0 where
  pub each : (x : StopNo) (step : Step) → slice_get f.steps.items x.0 ≡ Some step → slice_index f.left x.0 < 2 ^ 32 - 1
      → LeftBy s x (slice_index f.left x.0) step
  pub best : f.best < 2 ^ 64 - 1 → BestBy s f.best f.best_step

pub record Covers (last : List (Option ℕ)) (f : Found) : Type 0 where
  pub each : (x : StopNo) (m : ℕ) → slice_index f.left x.0 < 2 ^ 32 - 1 → HasEntry last x m → f.best ≤ slice_index f.left x.0 + m

pub record Scanned (route : Route) (buffer : ℕ) (ready : List ℕ) (left : List ℕ) (best : ℕ) (i : ℕ) : Type 0 where
  pub each : (j p : ℕ) (on off : Place) → i < j → slice_get route.places i ≡ Some on → slice_get route.places j ≡ Some off
      → IsTrue on.board → IsTrue off.alight → p < length route.trips
      → slice_index ready on.stop.0 < best → slice_index ready on.stop.0 + buffer ≤ slice_index (departures_of route i) p
      → min (slice_index left off.stop.0) best ≤ slice_index (arrivals_of route j) p

pub record Falls (old new : Found) : Type 0 where
  pub stops : length new.left ≡ length old.left
  pub steps : vec_len new.steps ≡ vec_len old.steps
  pub marks : length new.fresh ≡ length old.fresh
  pub left : (x : ℕ) → slice_index new.left x ≤ slice_index old.left x
  pub best : new.best ≤ old.best
  pub fresh_stays : (x : ℕ) → slice_index_or old.fresh x false ≡ true → slice_index_or new.fresh x false ≡ true
  pub others_stay : (x : ℕ) → slice_index_or new.fresh x false ≡ false → slice_index new.left x ≡ slice_index old.left x

-- a row caught at a call: it departs in time from where the passenger is ready
pub record IsHeld (route : Route) (buffer : ℕ) (ready ready_by : List ℕ) (hold : Hold) : Type 0 where
  pub place : Place
  pub is_place : slice_get route.places hold.on ≡ Some place
  pub may_board : IsTrue place.board
  pub sure : slice_index ready place.stop.0 < 2 ^ 32 - 1
  pub in_time : slice_index ready place.stop.0 + buffer ≤ slice_index (departures_of route hold.on) hold.row
  pub by_is : hold.by ≡ slice_index ready_by place.stop.0

-- the ride on the row that is held, up to the j-th call
abbrev pub step_of : Hold → TripNo → ℕ → Step
step_of hold trip j = record { ride = record { trip = trip; board = hold.on; alight = j }; by = hold.by }

-- where the passenger is ready: seconds only fall, and one that fell is marked as better
pub record ReadyFalls (old new : Ready) : Type 0 where
  pub stops : length new.seconds ≡ length old.seconds
  pub slots : vec_len new.by ≡ vec_len old.by
  pub marks : length new.better ≡ length old.better
  pub seconds : (x : ℕ) → slice_index new.seconds x ≤ slice_index old.seconds x
  pub better_stays : (x : ℕ) → slice_index_or old.better x false ≡ true → slice_index_or new.better x false ≡ true
  pub others_stay : (x : ℕ) → slice_index_or new.better x false ≡ false → slice_index new.seconds x ≡ slice_index old.seconds x

-- the same labels, none of them fresh
pub record Cleared (old new : Found) : Type 0 where
  pub left : new.left ≡ old.left
  pub steps : new.steps ≡ old.steps
  pub best : new.best ≡ old.best
  pub best_step : new.best_step ≡ old.best_step
  pub marks : length new.fresh ≡ length old.fresh
  pub none_fresh : (y : ℕ) → slice_index_or new.fresh y false ≡ false

-- the same seconds, none of them marked
pub record Unmarked (old new : Ready) : Type 0 where
  pub seconds : new.seconds ≡ old.seconds
  pub by : new.by ≡ old.by
  pub marks : length new.better ≡ length old.better
  pub none_better : (y : ℕ) → slice_index_or new.better y false ≡ false

-- each of the first n entries of a list stands in the span of its stop
pub record AreSpans (list : List Shortcut) (n : ℕ) (spans : Spans) : Type 0 where
  pub each : (i : ℕ) (e : Shortcut) → i < n → slice_get list i ≡ Some e
      → (slice_index spans.firsts e.from.0 < 2 ^ 32 - 1) × (slice_index spans.firsts e.from.0 ≤ i) × (i < slice_index spans.ends.items e.from.0)
  pub begun : (x : ℕ) → slice_index spans.firsts x < 2 ^ 32 - 1 → slice_index spans.firsts x ≤ n
  pub within : (x : ℕ) → slice_index spans.firsts x < 2 ^ 32 - 1 → slice_index spans.ends.items x ≤ n
