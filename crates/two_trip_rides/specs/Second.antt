-- Second rides on one route. For each place of the route the least boarded row is held, with the label that it was
-- boarded with, and for each stop the least key of the rides that are left there.
--     ready_at, held_at, second_at      the label at a place of a list, where those past the end are none
--     HeldFall, SecondsFall             no label has become greater
--     IsCut foot z places ready x a     walking from the start, or a first ride and a walk, comes to x by second a
--     left_of a trip m                  the key of a boarded row that is left at second a
--     SecondClosed route .. held best   a row that is held is held at the next place, and its key is known there
--     IsSecondRow s route k m           the passenger boards the row with its label at the k-th call or before
--     AreSecondRows s route held        each row that is held is so boarded
--     AreSeconds s best                 each key is that of a second ride
use Rattle.std.specs.Prelude.{◌≡◌, ℕ, ◌+◌, ◌<◌, ◌≤◌, ◌⊎◌, IsTrue, List, length, slice_get, slice_index, slice_index_or, Some}
use Rattle.move_model.specs.declared.network.StopNo.{StopNo}
use Rattle.move_model.specs.declared.network.TripNo.{TripNo}
use Rattle.move_model.specs.Shortcut.{IsLess}
use Rattle.route_split.specs.declared.place.Place.{Place}
use Rattle.route_split.specs.Route.{Route, arrivals_of, departures_of}
use Rattle.piece_laws.specs.declared.labels.Ready.{Ready}
use Rattle.piece_laws.specs.declared.labels.Second.{Second}
use Rattle.piece_laws.specs.declared.labels.Held.{Held}
use Rattle.piece_laws.specs.Pieces.{second_entries, held_entries, HasReady, HasSecond}
use Rattle.piece_laws.specs.Tables.{never}
use Rattle.two_trip_rides.specs.First.{Source, IsWalked}

abbrev pub no_ready : Ready
no_ready = record { ready = never; a1 = never; c = never }

abbrev pub no_held : Held
no_held = record { row = never; y = never; label = no_ready }

abbrev pub no_second : Second
no_second = record { a2 = never; trip = never; y = never; label = no_ready }

abbrev pub ready_at : List Ready → ℕ → Ready
ready_at labels p = slice_index_or labels p no_ready

abbrev pub held_at : List Held → ℕ → Held
held_at held k = slice_index_or held k no_held

abbrev pub second_at : List Second → ℕ → Second
second_at best x = slice_index_or best x no_second

pub record HeldFall (old new : List Held) : Type 0 where
  pub as_many : length new ≡ length old
  pub each : (k : ℕ) → ¬ (IsLess (held_entries (held_at old k)) (held_entries (held_at new k)))

pub record SecondsFall (old new : List Second) : Type 0 where
  pub as_many : length new ≡ length old
  pub each : (x : ℕ) → ¬ (IsLess (second_entries (second_at old x)) (second_entries (second_at new x)))

-- labels stand by place, and each stop has a place
abbrev pub IsCut : List ℕ → ℕ → List ℕ → List Ready → StopNo → ℕ → Type 0
IsCut foot z places ready x a = IsWalked foot z x a ⊎ ((ready_at ready (slice_index places x.0)).ready ≤ a)

abbrev pub left_of : ℕ → TripNo → Held → Second
left_of a trip m = record { a2 = a; trip = trip.0; y = m.y; label = m.label }

pub record SecondClosed (route : Route) (foot : List ℕ) (z : ℕ) (places : List ℕ) (ready : List Ready) (held : List Held) (best : List Second) : Type 0 where
  pub goes : (k : ℕ) → k + 2 < length route.places → ¬ (IsLess (held_entries (held_at held k)) (held_entries (held_at held (k + 1))))
  pub leaves : (k : ℕ) (off : Place) (trip : TripNo) → slice_get route.places (k + 1) ≡ Some off → IsTrue off.alight
      → slice_get route.trips (held_at held k).row ≡ Some trip
      → IsCut foot z places ready off.stop (slice_index (arrivals_of route (k + 1)) (held_at held k).row)
      ⊎ ¬ (IsLess (second_entries (left_of (slice_index (arrivals_of route (k + 1)) (held_at held k).row) trip (held_at held k))) (second_entries (second_at best off.stop.0)))

-- left at the k-th call
pub record IsSecondLeft (route : Route) (k : ℕ) (m : Held) (x : ℕ) (key : Second) : Type 0 where
  pub off : Place
  pub trip : TripNo
  pub is_off : slice_get route.places k ≡ Some off
  pub may_alight : IsTrue off.alight
  pub is_trip : slice_get route.trips m.row ≡ Some trip
  pub left_at : off.stop.0 ≡ x
  pub key_is : left_of (slice_index (arrivals_of route k) m.row) trip m ≡ key

pub record IsSecondRow (s : Source) (route : Route) (k : ℕ) (m : Held) : Type 0 where
  pub at : ℕ
  pub by : at ≤ k
  pub on : Place
  pub is_place : slice_get route.places at ≡ Some on
  pub may_board : IsTrue on.board
  pub boards : HasReady s.network s.node s.second on.stop m.label
  pub in_time : m.label.ready + s.network.buffer ≤ slice_index (departures_of route at) m.row
  pub y_is : m.y ≡ on.stop.0

pub record AreSecondRows (s : Source) (route : Route) (held : List Held) : Type 0 where
  pub each : (k : ℕ) → k + 1 < length route.places → (held_at held k).row < length route.trips → IsSecondRow s route k (held_at held k)

pub record AreSeconds (s : Source) (best : List Second) : Type 0 where
  pub each : (v : StopNo) → v.0 < length best → (second_at best v.0).a2 < never → HasSecond s.network s.node s.second v (second_at best v.0)
