-- The parts of the pieces from a vertex q at a second z, where the stops `us` stand.
--     IsOnFoot n q z y a         walking arrives at the stop y by second a
--     IsCovered n q z v a        a journey with at most one ride arrives at v by second a
--     HasFirst n q z x a         a first ride is left at x at second a
--     IsOwn n us z x a           a ride from one of the stops, at z and the buffer, is left at x at second a
--     HasReady n q z y l         after a first ride and a walk the passenger is ready at y
--     HasSecond n q z v k        a second ride is left at v: all of a piece's key but its last walk
--     IsNeeded n us z x y        a candidate of one of the stops that nothing betters walks from x to y
--     IsOfStart n shortcut       the needed walk of some start, with its distance
use Rattle.std.specs.Prelude.{◌≡◌, ℕ, ◌+◌, ◌≤◌, List, [], ◌∷◌, length, Contains}
use Rattle.move_model.specs.declared.network.Network.{Network}
use Rattle.move_model.specs.declared.network.NodeNo.{NodeNo}
use Rattle.move_model.specs.declared.network.StopNo.{StopNo}
use Rattle.move_model.specs.declared.network.Call.{Call}
use Rattle.move_model.specs.declared.journey.Ride.{Ride}
use Rattle.move_model.specs.declared.journey.Journey.{Journey}
use Rattle.move_model.specs.declared.journey.Shortcut.{Shortcut}
use Rattle.move_model.specs.Streets.{IsDistance}
use Rattle.move_model.specs.Network.{node_of, streets, IsStopDistance}
use Rattle.move_model.specs.Journey.{IsRide, IsJourney}
use Rattle.move_model.specs.Shortcut.{Piece, entry_of, IsStart, IsCandidate, IsBettered}
use Rattle.piece_laws.specs.declared.labels.Ready.{Ready}
use Rattle.piece_laws.specs.declared.labels.Second.{Second}
use Rattle.piece_laws.specs.declared.labels.Held.{Held}

-- the distance from a vertex to a stop
abbrev pub IsFootDistance : Network → NodeNo → StopNo → ℕ → Type 0
IsFootDistance n q y m = IsDistance (streets n) q (node_of n y) m

pub record IsOnFoot (n : Network) (q : NodeNo) (z : ℕ) (y : StopNo) (a : ℕ) : Type 0 where
  pub seconds : ℕ
  pub foot : IsFootDistance n q y seconds
  pub no_later : z + seconds ≤ a

pub record IsCovered (n : Network) (q : NodeNo) (z : ℕ) (v : StopNo) (a : ℕ) : Type 0 where
  pub journey : Journey
  pub arrive : ℕ
  pub departs : journey.depart ≡ z
  pub few : length journey.rides ≤ 1
  pub leads : IsJourney n q journey (node_of n v) arrive
  pub no_later : arrive ≤ a

-- boarded in time after a walk from q
pub record HasFirst (n : Network) (q : NodeNo) (z : ℕ) (x : StopNo) (a : ℕ) : Type 0 where
  pub ride : Ride
  pub on : Call
  pub off : Call
  pub is_ride : IsRide n ride on off
  pub walk : ℕ
  pub to_it : IsFootDistance n q on.stop walk
  pub in_time : z + walk + n.buffer ≤ on.dep
  pub left_at : off.stop ≡ x
  pub left_by : off.arr ≡ a

pub record IsOwn (n : Network) (us : List StopNo) (z : ℕ) (x : StopNo) (a : ℕ) : Type 0 where
  pub ride : Ride
  pub on : Call
  pub off : Call
  pub is_ride : IsRide n ride on off
  pub boards_at : Contains us on.stop
  pub departs : on.dep ≡ z + n.buffer
  pub left_at : off.stop ≡ x
  pub left_by : off.arr ≡ a

-- the entries of a key in which two labels at one stop may differ, in the order of keys
abbrev pub ready_entries : Ready → List ℕ
ready_entries l = l.ready ∷ l.a1 ∷ l.c ∷ []

abbrev pub second_entries : Second → List ℕ
second_entries k = k.a2 ∷ k.trip ∷ k.label.ready ∷ k.y ∷ k.label.a1 ∷ k.label.c ∷ []

abbrev pub held_entries : Held → List ℕ
held_entries m = m.row ∷ m.label.ready ∷ m.y ∷ m.label.a1 ∷ m.label.c ∷ []

pub record HasReady (n : Network) (q : NodeNo) (z : ℕ) (y : StopNo) (l : Ready) : Type 0 where
  pub from : StopNo
  pub first : HasFirst n q z from l.a1
  pub walk : ℕ
  pub between : IsStopDistance n from y walk
  pub ready_is : l.ready ≡ l.a1 + walk
  pub c_is : l.c ≡ entry_of from y

pub record HasSecond (n : Network) (q : NodeNo) (z : ℕ) (v : StopNo) (k : Second) : Type 0 where
  pub ride : Ride
  pub on : Call
  pub off : Call
  pub is_ride : IsRide n ride on off
  pub boards : HasReady n q z on.stop k.label
  pub in_time : k.label.ready + n.buffer ≤ on.dep
  pub left_at : off.stop ≡ v
  pub a2_is : k.a2 ≡ off.arr
  pub trip_is : k.trip ≡ ride.trip.0
  pub y_is : k.y ≡ on.stop.0

pub record IsNeeded (n : Network) (us : List StopNo) (z : ℕ) (x y : StopNo) : Type 0 where
  pub u : StopNo
  pub v : StopNo
  pub piece : Piece
  pub leaves : Contains us u
  pub candidate : IsCandidate n u z v piece
  pub needed : ¬ (IsBettered n u z v piece)
  pub from_is : piece.off1.stop ≡ x
  pub to_is : piece.on2.stop ≡ y

pub record IsOfStart (n : Network) (shortcut : Shortcut) : Type 0 where
  pub u : StopNo
  pub z : ℕ
  pub start : IsStart n u z
  pub needed : IsNeeded n (u ∷ []) z shortcut.from shortcut.to
  pub seconds_are : IsStopDistance n shortcut.from shortcut.to shortcut.seconds
