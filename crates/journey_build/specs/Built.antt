-- Journeys with given rides, by walks with the least seconds of a hierarchy.
--     IsLeastWay g h walk        the walk has the least seconds of arcs up and arcs down between its ends, goes on at each step,
--                                and comes to no vertex twice at one second
--     IsBuilt n h s d rides t j  j is a journey from s at second d to t with these rides, by such walks
--     IsMissed n h p r ride      a passenger at p at second r can't board: it is no ride, no arcs up and down lead there, or they take too long
--     IsBroken n h p r rides t   some of the rides is missed so, or no arcs up and down lead on to t
--     HasRides n s d rides t     some journey from s at second d to t has these rides
use Rattle.std.specs.Prelude.{◌≡◌, ℕ, ◌+◌, ◌<◌, List, [], ◌∷◌, All}
use Rattle.move_model.specs.declared.network.Network.{Network}
use Rattle.move_model.specs.declared.network.NodeNo.{NodeNo}
use Rattle.move_model.specs.declared.network.Call.{Call}
use Rattle.move_model.specs.declared.journey.Ride.{Ride}
use Rattle.move_model.specs.declared.journey.Journey.{Journey}
use Rattle.move_model.specs.Streets.{Streets}
use Rattle.move_model.specs.Network.{streets, node_of}
use Rattle.move_model.specs.Journey.{IsRide, IsJourney}
use Rattle.walk_laws.specs.Sums.{IsLeast}
use Rattle.walk_hierarchy.specs.Hierarchy.{Parts, IsUpDownSum, IsWayOver}

pub record IsLeastWay (g : Streets) (h : Parts) (walk : List NodeNo) : Type 0 where
  pub from : NodeNo
  pub to : NodeNo
  pub way : IsWayOver g h from to walk

pub record IsBuilt (n : Network) (h : Parts) (from : NodeNo) (depart : ℕ) (rides : List Ride) (to : NodeNo) (journey : Journey) : Type 0 where
  pub departs : journey.depart ≡ depart
  pub same_rides : journey.rides ≡ rides
  pub arrive : ℕ
  pub leads : IsJourney n from journey to arrive
  pub ways : All (IsLeastWay (streets n) h) journey.walks

pub data IsMissed (n : Network) (h : Parts) (p : NodeNo) (r : ℕ) (ride : Ride) : Type 0 where
  no_ride : ((on off : Call) → IsRide n ride on off → ⊥) → IsMissed n h p r ride
  no_way : {on off : Call} → IsRide n ride on off → ((m : ℕ) → IsUpDownSum h p (node_of n on.stop) m → ⊥) → IsMissed n h p r ride
  too_late : {on off : Call} {m : ℕ} → IsRide n ride on off → IsLeast (IsUpDownSum h p (node_of n on.stop)) m → on.dep < r + m + n.buffer → IsMissed n h p r ride

pub data IsBroken (n : Network) (h : Parts) : NodeNo → ℕ → List Ride → NodeNo → Type 0 where
  at_end : {p t : NodeNo} {r : ℕ} → ((m : ℕ) → IsUpDownSum h p t m → ⊥) → IsBroken n h p r [] t
  here : {p t : NodeNo} {r : ℕ} {ride : Ride} {rides : List Ride} → IsMissed n h p r ride → IsBroken n h p r (ride ∷ rides) t
  later : {p t : NodeNo} {r : ℕ} {ride : Ride} {rides : List Ride} {on off : Call} → IsRide n ride on off
      → IsBroken n h (node_of n off.stop) off.arr rides t → IsBroken n h p r (ride ∷ rides) t

pub record HasRides (n : Network) (from : NodeNo) (depart : ℕ) (rides : List Ride) (to : NodeNo) : Type 0 where
  pub journey : Journey
  pub departs : journey.depart ≡ depart
  pub same_rides : journey.rides ≡ rides
  pub arrive : ℕ
  pub leads : IsJourney n from journey to arrive
