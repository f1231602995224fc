-- What the labels of a source say of all pieces that end before a second h.
--     IsSeconds g a b m           m is the distance from a to b, or none where there is none by the last second of a day
--     Parts                       the routes, the seconds on foot by stop and by place, the place of each stop, and the row of each place
--     ArePartsOf n q p            they are those of the network, for a passenger who sets out from q
--     Kept                        what is kept from start to start
--     IsLabel first there y l     l is the lesser of the label of y's place and of the label of a ride left at y itself
--     IsClosed n p z g h k        a fact of the numbers: at stops that are walked to before g nothing is left to be boarded, and
--                                 nothing before h is left to be walked or ridden
--     IsSound n q z p k           what the labels stand for
use Rattle.std.specs.Prelude.{◌≡◌, ℕ, ◌+◌, ◌-◌, ◌<◌, ◌≤◌, ◌⊎◌, IsTrue, List, length, slice_get, slice_index, slice_index_or, Some}
use Rattle.move_model.specs.declared.network.Network.{Network}
use Rattle.move_model.specs.declared.network.NodeNo.{NodeNo}
use Rattle.move_model.specs.declared.network.StopNo.{StopNo}
use Rattle.move_model.specs.declared.network.TripNo.{TripNo}
use Rattle.move_model.specs.Streets.{Streets, IsDistance}
use Rattle.move_model.specs.Network.{streets, node_of, IsStopDistance}
use Rattle.move_model.specs.Shortcut.{IsLess}
use Rattle.route_split.specs.declared.place.Place.{Place}
use Rattle.route_split.specs.Route.{Route, IsRoute, departures_of}
use Rattle.route_split.specs.Calls.{HoldsTrips}
use Rattle.piece_laws.specs.declared.labels.Ready.{Ready}
use Rattle.piece_laws.specs.declared.labels.Second.{Second}
use Rattle.piece_laws.specs.declared.labels.Held.{Held}
use Rattle.piece_laws.specs.Pieces.{ready_entries, held_entries, HasFirst, HasReady, HasSecond}
use Rattle.piece_laws.specs.Tables.{never}
use Rattle.two_trip_rides.specs.First.{IsWalked}
use Rattle.two_trip_rides.specs.Second.{ready_at, held_at, second_at}
use Rattle.two_trip_labels.specs.First.{row_at, AllFirstClosed}
use Rattle.two_trip_labels.specs.Second.{held_row, boarded_with, AllSecondClosed}
use Rattle.two_trip_labels.specs.Walks.{IsWalkedTo}

-- no ride departs later
abbrev pub last_second : ℕ
last_second = 3599999

pub record IsSeconds (g : Streets) (a b : NodeNo) (m : ℕ) : Type 0 where
  pub real : m < never → IsDistance g a b m
  pub enough : (k : ℕ) → IsDistance g a b k → k ≤ last_second → m ≡ k

pub record Parts : Type 0 where
  pub routes : List Route
  pub foot : List ℕ
  pub foot_row : List ℕ
  pub places : List ℕ
  pub row : ℕ → List ℕ

abbrev pub place_of : Parts → StopNo → ℕ
place_of p x = slice_index p.places x.0

abbrev pub foot_to : Parts → StopNo → ℕ
foot_to p x = slice_index p.foot x.0

pub record ArePartsOf (n : Network) (q : NodeNo) (p : Parts) : Type 0 where
  pub trips : HoldsTrips n.trips p.routes
  pub rising : (r : ℕ) (route : Route) (i j : ℕ) (t u : TripNo) → slice_get p.routes r ≡ Some route → i < j → slice_get route.trips i ≡ Some t
      → slice_get route.trips j ≡ Some u → t.0 < u.0
  pub whole : (r : ℕ) (route : Route) → slice_get p.routes r ≡ Some route → IsRoute (length n.stops) route
  pub on_foot : (x : StopNo) → x.0 < length n.stops → IsSeconds (streets n) q (node_of n x) (foot_to p x)
  pub between : (x y : StopNo) → x.0 < length n.stops → y.0 < length n.stops
      → IsSeconds (streets n) (node_of n x) (node_of n y) (slice_index (p.row (place_of p x)) (place_of p y))
  pub by_place : (x : StopNo) → x.0 < length n.stops → slice_index p.foot_row (place_of p x) ≡ foot_to p x

-- the rows held by first rides and the arrivals of these; the arrivals from which walks were made; the labels of places;
-- the labels with which stops were boarded; the rows held by second rides and the keys of these
pub record Kept : Type 0 where
  pub first_rows : List (List ℕ)
  pub first : List ℕ
  pub walked : List ℕ
  pub ready : List Ready
  pub boarded : List Ready
  pub held : List (List Held)
  pub best : List Second

abbrev pub walked_at : Kept → StopNo → ℕ
walked_at k x = slice_index_or k.walked x.0 never

abbrev pub boarded_at : Kept → StopNo → Ready
boarded_at k y = ready_at k.boarded y.0

abbrev pub best_at : Kept → StopNo → Second
best_at k v = second_at k.best v.0

-- the label of a ride that is left at the stop itself
abbrev pub own_of : List ℕ → StopNo → Ready
own_of first y = record { ready = slice_index first y.0; a1 = slice_index first y.0; c = 0 }

abbrev pub own_label : Kept → StopNo → Ready
own_label k y = own_of k.first y

-- the lesser of the label of a stop's place and of its own
pub record IsLabel (first : List ℕ) (there : Ready) (y : StopNo) (l : Ready) : Type 0 where
  pub one : (l ≡ own_of first y) ⊎ ((l ≡ there) × IsLess (ready_entries there) (ready_entries (own_of first y)))
  pub own_low : ¬ (IsLess (ready_entries (own_of first y)) (ready_entries l))
  pub there_low : ¬ (IsLess (ready_entries there) (ready_entries l))

abbrev pub place_label : Parts → Kept → StopNo → Ready
place_label p k y = ready_at k.ready (place_of p y)

pub record IsClosed (n : Network) (p : Parts) (z g h : ℕ) (k : Kept) : Type 0 where
  pub rows : AllFirstClosed p.routes p.foot z k.first_rows k.first
  pub caught : (r i row : ℕ) (route : Route) (on : Place) → slice_get p.routes r ≡ Some route → slice_get route.places i ≡ Some on → IsTrue on.board
      → i + 1 < length route.places → row < length route.trips → z + foot_to p on.stop < g
      → z + foot_to p on.stop + n.buffer ≤ slice_index (departures_of route i) row → slice_index (row_at k.first_rows r) i ≤ row
  pub first_low : (x : StopNo) → x.0 < length n.stops → slice_index k.first x.0 ≤ walked_at k x
  pub walked_low : (x : StopNo) → x.0 < length n.stops → slice_index k.first x.0 < h → walked_at k x ≤ slice_index k.first x.0
  pub walks : (x y : StopNo) → x.0 < length n.stops → y.0 < length n.stops
      → IsWalkedTo (p.row (place_of p x)) p.foot_row z (walked_at k x) (1 + x.0) k.ready (place_of p y)
  pub own_low : (y : StopNo) → y.0 < length n.stops → slice_index k.first y.0 < h → ¬ (IsLess (ready_entries (own_label k y)) (ready_entries (boarded_at k y)))
  pub place_low : (y : StopNo) → y.0 < length n.stops → (place_label p k y).ready < h
      → ¬ (IsLess (ready_entries (place_label p k y)) (ready_entries (boarded_at k y)))
  pub ridden : (r i row : ℕ) (route : Route) (on : Place) → slice_get p.routes r ≡ Some route → slice_get route.places i ≡ Some on → IsTrue on.board
      → i + 1 < length route.places → row < length route.trips → (boarded_at k on.stop).ready + n.buffer ≤ slice_index (departures_of route i) row
      → IsWalked p.foot z on.stop (boarded_at k on.stop).ready
      ⊎ ¬ (IsLess (held_entries (boarded_with row on (boarded_at k on.stop))) (held_entries (held_at (held_row k.held r) i)))
  pub held_rows : AllSecondClosed p.routes p.foot z p.places k.ready k.held k.best

-- after a first ride and a walk the passenger is ready at the place of y; the label names the stop where the ride was left
pub record HasPlaceLabel (n : Network) (q : NodeNo) (z : ℕ) (y : StopNo) (l : Ready) : Type 0 where
  pub from : StopNo
  pub first : HasFirst n q z from l.a1
  pub walk : ℕ
  pub between : IsStopDistance n from y walk
  pub ready_is : l.ready ≡ l.a1 + walk
  pub c_is : l.c ≡ 1 + from.0

pub record IsSound (n : Network) (q : NodeNo) (z : ℕ) (p : Parts) (k : Kept) : Type 0 where
  pub walked : (x : StopNo) → walked_at k x < never → HasFirst n q z x (walked_at k x)
  pub ready : (y : StopNo) → y.0 < length n.stops → (place_label p k y).ready < never → HasPlaceLabel n q z y (place_label p k y)
  pub ready_from : (y : StopNo) → y.0 < length n.stops → (place_label p k y).ready < never
      → slice_index k.first ((place_label p k y).c - 1) ≤ (place_label p k y).a1
  pub boarded : (y : StopNo) → (boarded_at k y).ready < never → HasReady n q z y (boarded_at k y)
  pub best : (v : StopNo) → (best_at k v).a2 < never → HasSecond n q z v (best_at k v)
