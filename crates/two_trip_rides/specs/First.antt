-- First rides on one route. For each place of the route the least row boarded there or before is held, and for each stop
-- the least arrival is known; a row or an arrival that is no number of the route or of a day is none.
--     Source                            from where and when the passenger sets out
--     IsWalked foot z x a               walking from the start comes to the stop x by second a
--     Falls old new                     no number has become greater
--     FirstClosed route foot z held first   a row that is held is held at the next place, and its arrival there is known
--     IsFirstRow s route k p            the passenger boards the route's p-th row at its k-th call or before
--     AreFirstRows s route held         each row that is held is so boarded
--     AreFirst s first                  each arrival is that of a first ride
--     IsOwnRow route k d p              the p-th row departs at second d from the k-th call, where it may be boarded
--     IsLeft route k p x a              the p-th row is left at the k-th call, at x at second a
--     IsLeftAfter route k p x a         the same at some call behind the k-th
--     IsOwnRide route k d x a           some row that departs at second d from the k-th call is left at x at second a
--     OwnOn route k d own               the least such arrivals are known
use Rattle.std.specs.Prelude.{◌≡◌, ℕ, ◌+◌, ◌<◌, ◌≤◌, ◌⊎◌, IsTrue, List, length, slice_get, slice_index, Some}
use Rattle.move_model.specs.declared.network.Network.{Network}
use Rattle.move_model.specs.declared.network.NodeNo.{NodeNo}
use Rattle.move_model.specs.declared.network.StopNo.{StopNo}
use Rattle.route_split.specs.declared.place.Place.{Place}
use Rattle.route_split.specs.Route.{Route, arrivals_of, departures_of}
use Rattle.piece_laws.specs.Pieces.{IsFootDistance, HasFirst}
use Rattle.piece_laws.specs.Tables.{never}

pub record Source : Type 0 where
  pub network : Network
  pub node : NodeNo
  pub second : ℕ

-- the seconds on foot stand by stop
abbrev pub IsWalked : List ℕ → ℕ → StopNo → ℕ → Type 0
IsWalked foot z x a = z + slice_index foot x.0 ≤ a

pub record Falls (old new : List ℕ) : Type 0 where
  pub as_many : length new ≡ length old
  pub each : (x : ℕ) → slice_index new x ≤ slice_index old x

pub record FirstClosed (route : Route) (foot : List ℕ) (z : ℕ) (held first : List ℕ) : Type 0 where
  pub goes : (k : ℕ) → k + 2 < length route.places → slice_index held (k + 1) ≤ slice_index held k
  pub leaves : (k : ℕ) (off : Place) → slice_get route.places (k + 1) ≡ Some off → IsTrue off.alight → slice_index held k < length route.trips
      → IsWalked foot z off.stop (slice_index (arrivals_of route (k + 1)) (slice_index held k))
      ⊎ (slice_index first off.stop.0 ≤ slice_index (arrivals_of route (k + 1)) (slice_index held k))

-- at some call up to the k-th, after a walk from the start
pub record IsFirstRow (s : Source) (route : Route) (k p : ℕ) : Type 0 where
  pub at : ℕ
  pub by : at ≤ k
  pub on : Place
  pub is_place : slice_get route.places at ≡ Some on
  pub may_board : IsTrue on.board
  pub walk : ℕ
  pub to_it : IsFootDistance s.network s.node on.stop walk
  pub in_time : s.second + walk + s.network.buffer ≤ slice_index (departures_of route at) p

pub record AreFirstRows (s : Source) (route : Route) (held : List ℕ) : Type 0 where
  pub each : (k : ℕ) → k + 1 < length route.places → slice_index held k < length route.trips → IsFirstRow s route k (slice_index held k)

pub record AreFirst (s : Source) (first : List ℕ) : Type 0 where
  pub each : (x : StopNo) → x.0 < length first → slice_index first x.0 < never → HasFirst s.network s.node s.second x (slice_index first x.0)

pub record IsOwnRow (route : Route) (k d p : ℕ) : Type 0 where
  pub is_row : p < length route.trips
  pub on : Place
  pub is_on : slice_get route.places k ≡ Some on
  pub may_board : IsTrue on.board
  pub departs : slice_index (departures_of route k) p ≡ d

pub record IsLeft (route : Route) (k p x a : ℕ) : Type 0 where
  pub off : Place
  pub is_off : slice_get route.places k ≡ Some off
  pub may_alight : IsTrue off.alight
  pub left_at : off.stop.0 ≡ x
  pub left_by : slice_index (arrivals_of route k) p ≡ a

pub record IsLeftAfter (route : Route) (k p x a : ℕ) : Type 0 where
  pub to : ℕ
  pub later : k < to
  pub is_left : IsLeft route to p x a

pub record IsOwnRide (route : Route) (k d x a : ℕ) : Type 0 where
  pub row : ℕ
  pub is_own : IsOwnRow route k d row
  pub is_left : IsLeftAfter route k row x a

pub record OwnOn (route : Route) (k d : ℕ) (own : List ℕ) : Type 0 where
  pub each : (x a : ℕ) → IsOwnRide route k d x a → slice_index own x ≤ a
