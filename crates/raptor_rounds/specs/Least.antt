-- What the labels bound.
--     LeastReady q k seconds best     no way with at most k rides is ready earlier than the labels, or they are past the best arrival
--     LeastLeft q k left best         the same for where a ride is left, with at most k rides before it
--     Walked list seconds left best   what goes on from the labels is no earlier than where the passenger is known to be ready
--     Closed table list ready found   nothing new comes of an unmarked stop, and transfers are done
--     GoesOn q k ..                   what a round adds
use Rattle.std.specs.Prelude.{◌≡◌, ℕ, suc, ◌+◌, ◌-◌, ◌^◌, ◌<◌, ◌≤◌, min, false, List, length, slice_get, slice_index, slice_index_or, Option, Some, vec_len}
use Rattle.move_model.specs.Listed.{HasEntry, HasTransfer}
use Rattle.route_split.specs.declared.place.Place.{Place}
use Rattle.route_split.specs.Route.{Route}
use Rattle.route_split.specs.Table.{Table}
use Rattle.raptor_rounds.specs.declared.labels.Step.{Step}
use Rattle.raptor_rounds.specs.declared.labels.Found.{Found}
use Rattle.raptor_rounds.specs.declared.labels.Ready.{Ready}
use Rattle.raptor_rounds.specs.declared.labels.Best.{Best}
use Rattle.move_model.specs.Listed.{IsListed}
use Rattle.route_split.specs.Calls.{IsTableOf}
use Rattle.raptor_rounds.specs.Labels.{Scope, BestBy, AllReady, IsFound, Scanned}
use Rattle.move_model.specs.declared.network.StopNo.{StopNo}
use Rattle.move_model.specs.declared.journey.Ride.{Ride}
use Rattle.move_model.specs.declared.journey.Shortcut.{Shortcut}
use Rattle.raptor_rounds.specs.Ways.{Query, IsReady, Leaves}

pub record LeastReady (q : Query) (k : ℕ) (seconds : List ℕ) (best : ℕ) : Type 0 where
  pub each : (rides : List Ride) (x : StopNo) (r : ℕ) → length rides ≤ k → IsReady q rides x r → min (slice_index seconds x.0) best ≤ r

pub record LeastLeft (q : Query) (k : ℕ) (left : List ℕ) (best : ℕ) : Type 0 where
  pub each : (rides : List Ride) (ride : Ride) (x : StopNo) (a : ℕ) → length rides ≤ k → Leaves q rides ride x a → min (slice_index left x.0) best ≤ a

pub record Walked (list : List Shortcut) (seconds left : List ℕ) (best : ℕ) : Type 0 where
  pub each : (y x : StopNo) (m : ℕ) → HasTransfer list y x m → min (slice_index seconds x.0) best ≤ slice_index left y.0 + m

-- between two rounds: nothing new comes of an unmarked stop, and transfers are done
pub record Closed (table : Table) (list : List Shortcut) (ready : Ready) (found : Found) : Type 0 where
  pub scanned : (r i : ℕ) (route : Route) (place : Place) → slice_get table.routes r ≡ Some route → slice_get route.places i ≡ Some place
      → slice_index_or ready.better place.stop.0 false ≡ false → Scanned route table.buffer ready.seconds found.left found.best i
  pub walked : Walked list ready.seconds found.left found.best

-- the vectors are as long as there are stops
pub record Sizes (stops : ℕ) (ready : Ready) (found : Found) : Type 0 where
  pub seconds : length ready.seconds ≡ stops
  pub by : vec_len ready.by ≡ stops
  pub better : length ready.better ≡ stops
  pub left : length found.left ≡ stops
  pub steps : vec_len found.steps ≡ stops
  pub fresh : length found.fresh ≡ stops

-- nobody is ready later than by the first row
pub record FirstKnown (q : Query) (seconds : List ℕ) : Type 0 where
  pub each : (x : StopNo) (m : ℕ) → HasEntry q.first x m → slice_index seconds x.0 ≤ q.depart + m

abbrev pub scope : Query → List Step → ℕ → ℕ → Scope
scope q slots bound many = record { query = q; slots = slots; bound = bound; many = many }

-- what a round adds, for each query that it may stand for
pub record GoesOn (q : Query) (k stops base : ℕ) (slots slots' : List Step) (ready ready' : Ready) (found found' : Found) : Type 0 where
  pub first : FirstKnown q ready.seconds → FirstKnown q ready'.seconds
  pub left_least : LeastReady q k ready.seconds found.best → LeastLeft q k found'.left found'.best
  pub ready_least : FirstKnown q ready.seconds → LeastReady q k ready.seconds found.best → LeastReady q (suc k) ready'.seconds found'.best
  pub found_sound : AllReady (scope q slots base k) ready.seconds ready.by.items → IsFound (scope q slots base k) found
      → IsFound (scope q slots' (base + stops) k) found'
  pub ready_sound : AllReady (scope q slots base k) ready.seconds ready.by.items → IsFound (scope q slots base k) found
      → AllReady (scope q slots' (base + stops) (suc k)) ready'.seconds ready'.by.items

-- between two rounds, for each query that the labels may stand for
pub record Stands (q : Query) (k base : ℕ) (slots : List Step) (ready : Ready) (found : Found) : Type 0 where
  pub first : FirstKnown q ready.seconds
  pub ready_least : LeastReady q k ready.seconds found.best
  pub ready_sound : AllReady (scope q slots base k) ready.seconds ready.by.items
  pub found_sound : IsFound (scope q slots base k) found

pub record Ends (q : Query) (slots : List Step) (bound k : ℕ) (b : Best) : Type 0 where
  pub before : ℕ
  pub few : before + 1 ≤ k
  pub ends : BestBy (scope q slots bound before) b.second b.step

-- the least arrival with at most k rides, or the greatest number where there is none
pub record IsBestOf (q : Query) (slots : List Step) (bound k : ℕ) (b : Best) : Type 0 where
  pub sound : b.second < 2 ^ 64 - 1 → Ends q slots bound k b
  pub least : (rides : List Ride) (arrive : ℕ) → length rides ≤ k → IsListed q.network q.first q.last q.list q.depart rides arrive → b.second ≤ arrive

-- the query has these parts
pub record Asks (q : Query) (table : Table) (first last : List (Option ℕ)) (list : List Shortcut) (depart : ℕ) : Type 0 where
  pub table_of : IsTableOf q.network table
  pub first_is : q.first ≡ first
  pub last_is : q.last ≡ last
  pub list_is : q.list ≡ list
  pub depart_is : q.depart ≡ depart

-- at the start the first n stops have the first row's second, the others none, and no ride was left
pub record IsReset (first : List (Option ℕ)) (depart n : ℕ) (ready : Ready) (found : Found) : Type 0 where
  pub known : (x m : ℕ) → x < n → slice_get first x ≡ Some (Some m) → slice_index ready.seconds x ≤ depart + m
  pub sound : (x : ℕ) → x < n → slice_index ready.seconds x < 2 ^ 32 - 1
      → (m : ℕ) × (slice_get first x ≡ Some (Some m)) × (slice_index ready.seconds x ≡ depart + m)
  pub by : (x : ℕ) → x < n → slice_index ready.seconds x < 2 ^ 32 - 1 → slice_index ready.by.items x ≡ 0
  pub bounded : (x : ℕ) → x < n → slice_index ready.seconds x ≤ 2 ^ 32 - 1
  pub marked : (x : ℕ) → x < n → slice_index_or ready.better x false ≡ false → slice_index ready.seconds x ≡ 2 ^ 32 - 1
  pub rest : (x : ℕ) → n ≤ x → x < length ready.seconds → slice_index ready.seconds x ≡ 2 ^ 32 - 1
  pub left : (x : ℕ) → x < length found.left → slice_index found.left x ≡ 2 ^ 32 - 1
