-- Journeys by two rows of walks and a list of walks between rides.
--     HasEntry row x m                   the row has m seconds for the stop x
--     HoldsFirst n s row                 the row holds the distances from s to the stops
--     HoldsLast n t row                  the row holds the distances from the stops to t
--     HasTransfer list x y m             the stop is the same, or the list has the walk, of m seconds
--     GoesOnListed n last list x r rides a      from stop x at second r by these rides to the end at second a
--     IsListed n first last list d rides a      from second d by these rides to the end at second a
--     HasRides n s d t rides a           a journey with these rides from s at second d to t at second a
--     HasListedRides n first last list d a k    a listed journey by second a with at most k rides
--     ListedSuffice n s t first last list       listed journeys are journeys, and none other is needed
--     HasListedArrival n first last list d k a  a listed journey with at most k rides ends at second a
--     HasBest n first last list d k best        the least such arrival, or None
--     earlier d foot best                the earlier of the walk on foot and of a listed journey
use Rattle.std.specs.Prelude.{◌≡◌, ℕ, ◌+◌, ◌<◌, ◌≤◌, ◌⊎◌, min, List, [], ◌∷◌, length, slice_get, slice_index_or, Contains, Option, Some, None}
use Rattle.move_model.specs.declared.network.Network.{Network}
use Rattle.move_model.specs.declared.network.NodeNo.{NodeNo}
use Rattle.move_model.specs.declared.network.StopNo.{StopNo}
use Rattle.move_model.specs.declared.network.Call.{Call}
use Rattle.move_model.specs.declared.journey.Ride.{Ride}
use Rattle.move_model.specs.declared.journey.Journey.{Journey}
use Rattle.move_model.specs.declared.journey.Shortcut.{Shortcut}
use Rattle.move_model.specs.Streets.{IsDistance, HasDistance}
use Rattle.move_model.specs.Network.{streets, node_of}
use Rattle.move_model.specs.Journey.{IsRide, IsJourney}
use Rattle.move_model.specs.Shortcut.{TransfersListed}

abbrev pub HasEntry : List (Option ℕ) → StopNo → ℕ → Type 0
HasEntry row x m = slice_get row x.0 ≡ Some (Some m)

pub record HoldsFirst (n : Network) (s : NodeNo) (row : List (Option ℕ)) : Type 0 where
  pub one_each : length row ≡ length n.stops
  pub distances : (x : StopNo) → x.0 < length n.stops → HasDistance (streets n) s (node_of n x) (slice_index_or row x.0 None)

pub record HoldsLast (n : Network) (t : NodeNo) (row : List (Option ℕ)) : Type 0 where
  pub one_each : length row ≡ length n.stops
  pub distances : (x : StopNo) → x.0 < length n.stops → HasDistance (streets n) (node_of n x) t (slice_index_or row x.0 None)

abbrev pub HasTransfer : List Shortcut → StopNo → StopNo → ℕ → Type 0
HasTransfer list x y m = ((x ≡ y) × (m ≡ 0)) ⊎ Contains list (record { from = x; to = y; seconds = m })

-- the last row's walk; or a transfer to a ride boarded in time, and then on from where it is left
pub data GoesOnListed (n : Network) (last : List (Option ℕ)) (list : List Shortcut) : StopNo → ℕ → List Ride → ℕ → Type 0 where
  ends : {x : StopNo} {r m : ℕ} → HasEntry last x m → GoesOnListed n last list x r [] (r + m)
  boards : {x : StopNo} {r m arrive : ℕ} {ride : Ride} {rides : List Ride} {on off : Call}
      → HasTransfer list x on.stop m → IsRide n ride on off → r + m + n.buffer ≤ on.dep
      → GoesOnListed n last list off.stop off.arr rides arrive → GoesOnListed n last list x r (ride ∷ rides) arrive

-- the first row's walk to a first ride boarded in time, and then on
pub data IsListed (n : Network) (first last : List (Option ℕ)) (list : List Shortcut) : ℕ → List Ride → ℕ → Type 0 where
  begins : {d m arrive : ℕ} {ride : Ride} {rides : List Ride} {on off : Call}
      → HasEntry first on.stop m → IsRide n ride on off → d + m + n.buffer ≤ on.dep
      → GoesOnListed n last list off.stop off.arr rides arrive → IsListed n first last list d (ride ∷ rides) arrive

-- a listed journey is one of the network, with these rides and this arrival
pub record HasRides (n : Network) (s : NodeNo) (d : ℕ) (t : NodeNo) (rides : List Ride) (arrive : ℕ) : Type 0 where
  pub journey : Journey
  pub departs : journey.depart ≡ d
  pub rides_are : journey.rides ≡ rides
  pub leads : IsJourney n s journey t arrive

-- a listed journey that arrives no later and has no more rides
pub record HasListedRides (n : Network) (first last : List (Option ℕ)) (list : List Shortcut) (d arrive many : ℕ) : Type 0 where
  pub rides : List Ride
  pub arrives : ℕ
  pub listed : IsListed n first last list d rides arrives
  pub no_later : arrives ≤ arrive
  pub no_more : length rides ≤ many

-- on foot, no later
pub record HasFoot (n : Network) (s t : NodeNo) (d arrive : ℕ) : Type 0 where
  pub seconds : ℕ
  pub foot : IsDistance (streets n) s t seconds
  pub no_later : d + seconds ≤ arrive

-- Each listed journey is a journey, and its transfers stay at a stop or are in the list. For each journey there is one
-- on foot or a listed one that is as good in both parts.
pub record ListedSuffice (n : Network) (s t : NodeNo) (first last : List (Option ℕ)) (list : List Shortcut) : Type 0 where
  pub real : (d : ℕ) (rides : List Ride) (arrive : ℕ) → IsListed n first last list d rides arrive → HasRides n s d t rides arrive
  pub transfers : (d : ℕ) (rides : List Ride) (arrive : ℕ) → IsListed n first last list d rides arrive → TransfersListed n list rides
  pub enough : (journey : Journey) (arrive : ℕ) → IsJourney n s journey t arrive
      → HasFoot n s t journey.depart arrive ⊎ HasListedRides n first last list journey.depart arrive (length journey.rides)

-- a listed journey with at most k rides arrives at this second
pub record HasListedArrival (n : Network) (first last : List (Option ℕ)) (list : List Shortcut) (d k arrive : ℕ) : Type 0 where
  pub rides : List Ride
  pub listed : IsListed n first last list d rides arrive
  pub few : length rides ≤ k

-- the least arrival of the listed journeys with at most k rides, or None where there is none
abbrev pub HasBest : Network → List (Option ℕ) → List (Option ℕ) → List Shortcut → ℕ → ℕ → Option ℕ → Type 0
HasBest n first last list d k (Some arrive) =
    HasListedArrival n first last list d k arrive
    × ((rides : List Ride) (other : ℕ) → length rides ≤ k → IsListed n first last list d rides other → arrive ≤ other)
HasBest n first last list d k None =
    (rides : List Ride) (other : ℕ) → length rides ≤ k → IsListed n first last list d rides other → ⊥

-- the earlier of the walk on foot and of a listed journey, where there is one
abbrev pub earlier : ℕ → Option ℕ → Option ℕ → Option ℕ
earlier d None best = best
earlier d (Some foot) None = Some (d + foot)
earlier d (Some foot) (Some best) = Some (min (d + foot) best)
