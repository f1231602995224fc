-- Labels at all stops, for what ends before a second h: a label of `never` is none.
--     FirstStands n q z h first     each label is a first ride, and each first ride is on foot or no less than the label
--     ReadyStands n q z h ready     the same of when the passenger is ready
--     SecondStands n q z h best     the same of second rides, but for those that a journey with at most one ride covers
--     OwnStands n us z own          the least arrivals of the rides from the stops themselves
--     OwnFirstStands n us q z h first   each label is a first ride, and each ride from the stops themselves is on foot or no less
--                                   than the label
--     IsWalkClosed n q z h ..       each walk on from a first ride's label is in the label where it ends
--     IsRideClosed n q z h ..       each ride on from a ready label is in the label where it is left
--     IsRead n q z h .. v x y       the labels of a start say at v that the walk from x to y is needed
use Rattle.std.specs.Prelude.{◌≡◌, ℕ, ◌+◌, ◌<◌, ◌≤◌, ◌⊎◌, List, [], ◌∷◌}
use Rattle.move_model.specs.declared.network.Network.{Network}
use Rattle.move_model.specs.declared.network.NodeNo.{NodeNo}
use Rattle.move_model.specs.declared.network.StopNo.{StopNo}
use Rattle.move_model.specs.declared.network.Call.{Call}
use Rattle.move_model.specs.declared.journey.Ride.{Ride}
use Rattle.move_model.specs.Network.{IsStopDistance}
use Rattle.move_model.specs.Journey.{IsRide}
use Rattle.move_model.specs.Shortcut.{IsLess, entry_of}
use Rattle.piece_laws.specs.declared.labels.Ready.{Ready}
use Rattle.piece_laws.specs.declared.labels.Second.{Second}
use Rattle.piece_laws.specs.Pieces.{IsFootDistance, IsOnFoot, IsCovered, HasFirst, IsOwn, HasReady, HasSecond, ready_entries, second_entries}

-- greater than every second of a day
abbrev pub never : ℕ
never = 4294967295

pub record FirstStands (n : Network) (q : NodeNo) (z h : ℕ) (first : StopNo → ℕ) : Type 0 where
  pub real : (x : StopNo) → first x < never → HasFirst n q z x (first x)
  pub enough : (x : StopNo) (a : ℕ) → HasFirst n q z x a → a < h → IsOnFoot n q z x a ⊎ (first x ≤ a)

pub record ReadyStands (n : Network) (q : NodeNo) (z h : ℕ) (ready : StopNo → Ready) : Type 0 where
  pub real : (y : StopNo) → (ready y).ready < never → HasReady n q z y (ready y)
  pub enough : (y : StopNo) (m : Ready) → HasReady n q z y m → m.ready < h
      → IsOnFoot n q z y m.ready ⊎ ¬ (IsLess (ready_entries m) (ready_entries (ready y)))

pub record SecondStands (n : Network) (q : NodeNo) (z h : ℕ) (best : StopNo → Second) : Type 0 where
  pub real : (v : StopNo) → (best v).a2 < never → HasSecond n q z v (best v)
  pub enough : (v : StopNo) (m : Second) → HasSecond n q z v m → m.a2 < h
      → IsCovered n q z v m.a2 ⊎ ¬ (IsLess (second_entries m) (second_entries (best v)))

pub record OwnStands (n : Network) (us : List StopNo) (z : ℕ) (own : StopNo → ℕ) : Type 0 where
  pub real : (x : StopNo) → own x < never → IsOwn n us z x (own x)
  pub enough : (x : StopNo) (a : ℕ) → IsOwn n us z x a → own x ≤ a

pub record OwnFirstStands (n : Network) (us : List StopNo) (q : NodeNo) (z h : ℕ) (first : StopNo → ℕ) : Type 0 where
  pub real : (x : StopNo) → first x < never → HasFirst n q z x (first x)
  pub enough : (x : StopNo) (a : ℕ) → IsOwn n us z x a → a < h → IsOnFoot n q z x a ⊎ (first x ≤ a)

abbrev pub IsWalkClosed : Network → NodeNo → ℕ → ℕ → (StopNo → ℕ) → (StopNo → Ready) → Type 0
IsWalkClosed n q z h first ready =
    (x y : StopNo) (w : ℕ) → IsStopDistance n x y w → first x + w < h
    → IsOnFoot n q z y (first x + w) ⊎ ¬ (IsLess ((first x + w) ∷ first x ∷ entry_of x y ∷ []) (ready_entries (ready y)))

-- a second ride from a label
abbrev pub ridden : Call → Ride → Call → Ready → Second
ridden on ride off l = record { a2 = off.arr; trip = ride.trip.0; y = on.stop.0; label = l }

abbrev pub IsRideClosed : Network → NodeNo → ℕ → ℕ → (StopNo → Ready) → (StopNo → Second) → Type 0
IsRideClosed n q z h ready best =
    (ride : Ride) (on off : Call) → IsRide n ride on off → (ready on.stop).ready + n.buffer ≤ on.dep → off.arr < h
    → IsCovered n q z off.stop off.arr
    ⊎ ¬ (IsLess (second_entries (ridden on ride off (ready on.stop))) (second_entries (best off.stop)))

-- a first ride of the start itself; no journey with at most one ride is as early; and no earlier stop of two rides is near enough
pub record IsRead (n : Network) (q : NodeNo) (z h : ℕ) (own : StopNo → ℕ) (ready : StopNo → Ready) (best : StopNo → Second)
    (v x y : StopNo) : Type 0 where
  pub within : (best v).a2 < h
  pub c_is : (best v).label.c ≡ 1 + x.0
  pub y_is : (best v).y ≡ y.0
  pub own_is : own x ≡ (best v).label.a1
  pub no_foot : (m : ℕ) → IsFootDistance n q v m → (best v).a2 < z + m
  pub no_ride : (best v).a2 < (ready v).ready
  pub no_far : (w : StopNo) (m : ℕ) → IsStopDistance n w v m
      → ¬ (IsLess (((best w).a2 + m) ∷ (best w).a2 ∷ []) ((best v).a2 ∷ (best v).a2 ∷ []))
