-- Which walks between two rides are needed.
--     IsStart n u z                 z is a second, less the buffer, at which u has a departure
--     IsPiece n u z v piece         two rides with walks lead from u at z to v
--     key_of v piece                the piece's place in the order of the pieces to v
--     IsLess xs ys                  lexicographic order
--     IsCandidate n u z v piece     a piece that departs at z from u itself, ends at v itself and walks between two stops
--     IsBettered n u z v piece      a lesser piece, or a journey with at most one ride, serves as well
--     IsShortcut n shortcut         the walk of a candidate that nothing betters
--     IsShortcutList n list         the list of all shortcuts
--     TransfersListed n list rides  each transfer stays at a stop or is a pair of the list
--     Suffices n list               no journey needs a transfer outside the list
use Rattle.std.specs.Prelude.{◌≡◌, ◌≢◌, ℕ, ◌+◌, ◌<◌, ◌≤◌, ◌⊎◌, ◌↔◌, ◌==◌, if◌then◌else◌, IsTrue, List, [], ◌∷◌, length, Contains}
use Rattle.std.specs.List.{AllAdjacentBelow}
use Rattle.move_model.specs.declared.network.Network.{Network}
use Rattle.move_model.specs.declared.network.NodeNo.{NodeNo}
use Rattle.move_model.specs.declared.network.StopNo.{StopNo}
use Rattle.move_model.specs.declared.network.TripNo.{TripNo}
use Rattle.move_model.specs.declared.network.Call.{Call}
use Rattle.move_model.specs.declared.journey.Ride.{Ride}
use Rattle.move_model.specs.declared.journey.Journey.{Journey}
use Rattle.move_model.specs.declared.journey.Key.{Key}
use Rattle.move_model.specs.declared.journey.Shortcut.{Shortcut}
use Rattle.move_model.specs.Network.{node_of, IsStopDistance}
use Rattle.move_model.specs.Journey.{HasCall, IsRide, IsJourney}

-- some call at u departs at z and the buffer, may be boarded, and is not its trip's last
pub record IsStart (n : Network) (u : StopNo) (z : ℕ) : Type 0 where
  pub trip : TripNo
  pub place : ℕ
  pub call : Call
  pub next : Call
  pub calls : HasCall n trip place call
  pub at_stop : call.stop ≡ u
  pub departs : call.dep ≡ z + n.buffer
  pub may_board : IsTrue call.board
  pub goes_on : HasCall n trip (place + 1) next

-- two rides, each with the call where it is boarded and the call where it is left; the second at which the
-- passenger is ready for the second ride, and the second at which the piece reaches its end
pub record Piece : Type 0 where
  pub first : Ride
  pub on1 : Call
  pub off1 : Call
  pub second : Ride
  pub on2 : Call
  pub off2 : Call
  pub ready : ℕ
  pub arrive : ℕ

-- from u at second z by two rides to v
pub record IsPiece (n : Network) (u : StopNo) (z : ℕ) (v : StopNo) (piece : Piece) : Type 0 where
  pub first_ride : IsRide n piece.first piece.on1 piece.off1
  pub second_ride : IsRide n piece.second piece.on2 piece.off2
  pub walk1 : ℕ
  pub to_first : IsStopDistance n u piece.on1.stop walk1
  pub in_time1 : z + walk1 + n.buffer ≤ piece.on1.dep
  pub walk2 : ℕ
  pub between : IsStopDistance n piece.off1.stop piece.on2.stop walk2
  pub ready_is : piece.ready ≡ piece.off1.arr + walk2
  pub in_time2 : piece.ready + n.buffer ≤ piece.on2.dep
  pub walk3 : ℕ
  pub to_end : IsStopDistance n piece.off2.stop v walk3
  pub arrive_is : piece.arrive ≡ piece.off2.arr + walk3

-- 0 where the two stops are one, and otherwise 1 more than the first
abbrev pub entry_of : StopNo → StopNo → ℕ
entry_of x y = if x.0 == y.0 then 0 else 1 + x.0

abbrev pub key_of : StopNo → Piece → Key
key_of v piece =
    record {
      arrive = piece.arrive;
      a2 = piece.off2.arr;
      e = entry_of piece.off2.stop v;
      trip = piece.second.trip.0;
      ready = piece.ready;
      y = piece.on2.stop.0;
      a1 = piece.off1.arr;
      c = entry_of piece.off1.stop piece.on2.stop;
    }

abbrev pub IsLess : List ℕ → List ℕ → Type 0
IsLess [] _ = ⊥
IsLess (x ∷ xs) [] = ⊥
IsLess (x ∷ xs) (y ∷ ys) = (x < y) ⊎ ((x ≡ y) × IsLess xs ys)

abbrev pub entries : Key → List ℕ
entries k = k.arrive ∷ k.a2 ∷ k.e ∷ k.trip ∷ k.ready ∷ k.y ∷ k.a1 ∷ k.c ∷ []

abbrev pub IsKeyLess : Key → Key → Type 0
IsKeyLess a b = IsLess (entries a) (entries b)

pub record IsCandidate (n : Network) (u : StopNo) (z : ℕ) (v : StopNo) (piece : Piece) : Type 0 where
  pub is_piece : IsPiece n u z v piece
  pub boards_at : piece.on1.stop ≡ u
  pub departs : piece.on1.dep ≡ z + n.buffer
  pub leaves_at : piece.off2.stop ≡ v
  pub walks : piece.off1.stop ≢ piece.on2.stop

pub data IsBettered (n : Network) (u : StopNo) (z : ℕ) (v : StopNo) (piece : Piece) : Type 0 where
  by_piece : (other : Piece) → IsPiece n u z v other → IsKeyLess (key_of v other) (key_of v piece) → IsBettered n u z v piece
  by_journey : (journey : Journey) (arrive : ℕ) → journey.depart ≡ z → length journey.rides ≤ 1
      → IsJourney n (node_of n u) journey (node_of n v) arrive → arrive ≤ piece.off2.arr → IsBettered n u z v piece

pub record IsShortcut (n : Network) (shortcut : Shortcut) : Type 0 where
  pub u : StopNo
  pub z : ℕ
  pub v : StopNo
  pub piece : Piece
  pub start : IsStart n u z
  pub candidate : IsCandidate n u z v piece
  pub needed : ¬ (IsBettered n u z v piece)
  pub from_is : shortcut.from ≡ piece.off1.stop
  pub to_is : shortcut.to ≡ piece.on2.stop
  pub seconds_are : IsStopDistance n shortcut.from shortcut.to shortcut.seconds

-- exactly the shortcuts, in rising order of their stops, each once
pub record IsShortcutList (n : Network) (list : List Shortcut) : Type 0 where
  pub exact : (shortcut : Shortcut) → Contains list shortcut ↔ IsShortcut n shortcut
  pub rising : AllAdjacentBelow (λ a b. IsLess (a.from.0 ∷ a.to.0 ∷ []) (b.from.0 ∷ b.to.0 ∷ [])) list (length list)

-- the one ride is left at the stop where the other is boarded, or the list has the walk between the two stops
abbrev pub TransferListed : Network → List Shortcut → Ride → Ride → Type 0
TransferListed n list ride next =
    (on off on' off' : Call) → IsRide n ride on off → IsRide n next on' off'
    → (off.stop ≡ on'.stop) ⊎ ((m : ℕ) × Contains list (record { from = off.stop; to = on'.stop; seconds = m }))

abbrev pub TransfersListed : Network → List Shortcut → List Ride → Type 0
TransfersListed n list [] = Unit {0}
TransfersListed n list (ride ∷ []) = Unit {0}
TransfersListed n list (ride ∷ next ∷ rides) = TransferListed n list ride next × TransfersListed n list (next ∷ rides)

-- a journey of transfers in the list, from s at second d to t, that arrives no later and has no more rides
pub record HasListed (n : Network) (list : List Shortcut) (s : NodeNo) (d : ℕ) (t : NodeNo) (arrive rides : ℕ) : Type 0 where
  pub journey : Journey
  pub arrives : ℕ
  pub departs : journey.depart ≡ d
  pub leads : IsJourney n s journey t arrives
  pub no_later : arrives ≤ arrive
  pub no_more : length journey.rides ≤ rides
  pub listed : TransfersListed n list journey.rides

-- for every journey there is one of listed transfers that is as good in both parts
abbrev pub Suffices : Network → List Shortcut → Type 0
Suffices n list =
    (s t : NodeNo) (journey : Journey) (arrive : ℕ) → IsJourney n s journey t arrive
    → HasListed n list s journey.depart t arrive (length journey.rides)
