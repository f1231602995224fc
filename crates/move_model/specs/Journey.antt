-- Rides, journeys and the Pareto set.
--     HasCall n trip k call           the k-th call of the trip is this call
--     IsRide n ride on off            the ride is boarded at the call `on` and left at the call `off`
--     Travels n p r walks rides t a   from p at second r by these walks and rides to t at second a
--     IsJourney n s journey t a       the journey leads from s to t, where it arrives at second a
--     HasPair n s d t pair            some journey from s at second d to t has this pair
--     IsPareto n s d t k pairs        these pairs are the Pareto set of all journeys with at most k rides
--     IsParetoList n s d t k pairs    they are it in rising order of the number of rides, each once
use Rattle.std.specs.Prelude.{◌≡◌, ℕ, ◌+◌, ◌<◌, ◌≤◌, ◌↔◌, IsTrue, List, [], ◌∷◌, length, slice_get, Contains, Option, Some, None}
use Rattle.std.specs.List.{AllAdjacentBelow}
use Rattle.move_model.specs.declared.network.Network.{Network}
use Rattle.move_model.specs.declared.network.NodeNo.{NodeNo}
use Rattle.move_model.specs.declared.network.TripNo.{TripNo}
use Rattle.move_model.specs.declared.network.Trip.{Trip}
use Rattle.move_model.specs.declared.network.Call.{Call}
use Rattle.move_model.specs.declared.journey.Ride.{Ride}
use Rattle.move_model.specs.declared.journey.Journey.{Journey}
use Rattle.move_model.specs.declared.journey.Pair.{Pair}
use Rattle.move_model.specs.Streets.{IsWalk}
use Rattle.move_model.specs.Network.{streets, node_of}

abbrev pub HasCall : Network → TripNo → ℕ → Call → Type 0
HasCall n trip k call = (t : Trip) × (slice_get n.trips trip.0 ≡ Some t) × (slice_get t.calls k ≡ Some call)

-- boarded where that is allowed, and left at a later call where that is allowed
pub record IsRide (n : Network) (ride : Ride) (on off : Call) : Type 0 where
  pub forward : ride.board < ride.alight
  pub boards : HasCall n ride.trip ride.board on
  pub may_board : IsTrue on.board
  pub leaves : HasCall n ride.trip ride.alight off
  pub may_alight : IsTrue off.alight

-- a walk to the end; or a walk to where a ride is boarded in time, and then on from where it is left
pub data Travels (n : Network) : NodeNo → ℕ → List (List NodeNo) → List Ride → NodeNo → ℕ → Type 0 where
  walks : {p t : NodeNo} {r m : ℕ} {walk : List NodeNo} → IsWalk (streets n) p walk t m → Travels n p r (walk ∷ []) [] t (r + m)
  rides : {p t : NodeNo} {r m arrive : ℕ} {walk : List NodeNo} {walks : List (List NodeNo)} {ride : Ride} {rides : List Ride}
      {on off : Call} → IsWalk (streets n) p walk (node_of n on.stop) m → IsRide n ride on off → r + m + n.buffer ≤ on.dep
      → Travels n (node_of n off.stop) off.arr walks rides t arrive → Travels n p r (walk ∷ walks) (ride ∷ rides) t arrive

abbrev pub IsJourney : Network → NodeNo → Journey → NodeNo → ℕ → Type 0
IsJourney n s journey t arrive = Travels n s journey.depart journey.walks journey.rides t arrive

pub record HasPair (n : Network) (s : NodeNo) (d : ℕ) (t : NodeNo) (pair : Pair) : Type 0 where
  pub journey : Journey
  pub departs : journey.depart ≡ d
  pub arrives : IsJourney n s journey t pair.arrive
  pub rides : length journey.rides ≡ pair.trips

-- as good in both parts
abbrev pub IsNoWorse : Pair → Pair → Type 0
IsNoWorse p q = (p.arrive ≤ q.arrive) × (p.trips ≤ q.trips)

-- some journey with at most `limit` rides has the pair, and none has another pair that is as good in both parts
pub record IsBest (n : Network) (s : NodeNo) (d : ℕ) (t : NodeNo) (limit : ℕ) (pair : Pair) : Type 0 where
  pub within : pair.trips ≤ limit
  pub attained : HasPair n s d t pair
  pub best : (other : Pair) → other.trips ≤ limit → HasPair n s d t other → IsNoWorse other pair → other ≡ pair

abbrev pub IsPareto : Network → NodeNo → ℕ → NodeNo → ℕ → List Pair → Type 0
IsPareto n s d t limit pairs = (pair : Pair) → Contains pairs pair ↔ IsBest n s d t limit pair

-- No two pairs of the Pareto set have the same number of rides, so there is one such list.
pub record IsParetoList (n : Network) (s : NodeNo) (d : ℕ) (t : NodeNo) (limit : ℕ) (pairs : List Pair) : Type 0 where
  pub exact : IsPareto n s d t limit pairs
  pub rising : AllAdjacentBelow (λ p q. p.trips < q.trips) pairs (length pairs)

-- some journey with at most k rides arrives at this second
pub record HasArrival (n : Network) (s : NodeNo) (d : ℕ) (t : NodeNo) (k arrive : ℕ) : Type 0 where
  pub journey : Journey
  pub departs : journey.depart ≡ d
  pub leads : IsJourney n s journey t arrive
  pub few : length journey.rides ≤ k

-- the least arrival of the journeys with at most k rides
pub record IsEarliest (n : Network) (s : NodeNo) (d : ℕ) (t : NodeNo) (k arrive : ℕ) : Type 0 where
  pub attained : HasArrival n s d t k arrive
  pub least : (other : ℕ) → HasArrival n s d t k other → arrive ≤ other

-- the least arrival, or None where there is no journey with at most k rides
abbrev pub HasEarliest : Network → NodeNo → ℕ → NodeNo → ℕ → Option ℕ → Type 0
HasEarliest n s d t k (Some arrive) = IsEarliest n s d t k arrive
HasEarliest n s d t k None = (arrive : ℕ) → HasArrival n s d t k arrive → ⊥

-- the least arrival with at most k rides, which no fewer rides give
pub record IsStep (n : Network) (s : NodeNo) (d : ℕ) (t : NodeNo) (limit : ℕ) (pair : Pair) : Type 0 where
  pub within : pair.trips ≤ limit
  pub earliest : IsEarliest n s d t pair.trips pair.arrive
  pub none_fewer : (k arrive : ℕ) → k < pair.trips → HasArrival n s d t k arrive → pair.arrive < arrive

-- the journey leads from somewhere to somewhere
abbrev pub IsSomeJourney : Network → Journey → Type 0
IsSomeJourney n journey = (s : NodeNo) × (t : NodeNo) × (arrive : ℕ) × IsJourney n s journey t arrive
