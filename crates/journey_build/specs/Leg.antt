-- A walk to where a ride is boarded, and the ride.
--     IsLeg n h p r ride leg     the leg's walk leads from p to where the ride is boarded in time, and it is left as the leg says
--     IsOnWay n h s d rides i walks p r   the first rides and their walks lead from s at second d to p at second r
use Rattle.std.specs.Prelude.{◌≡◌, ℕ, ◌+◌, ◌≤◌, List, ◌++◌, All, take, drop}
use Rattle.move_model.specs.declared.network.Network.{Network}
use Rattle.move_model.specs.declared.network.NodeNo.{NodeNo}
use Rattle.move_model.specs.declared.network.Call.{Call}
use Rattle.move_model.specs.declared.journey.Ride.{Ride}
use Rattle.move_model.specs.Streets.{IsWalk}
use Rattle.move_model.specs.Network.{streets, node_of}
use Rattle.move_model.specs.Journey.{IsRide, Travels}
use Rattle.walk_hierarchy.specs.Hierarchy.{Parts, IsNode}
use Rattle.journey_build.specs.declared.leg.Leg.{Leg}
use Rattle.journey_build.specs.Built.{IsLeastWay, IsBroken}

pub record IsLeg (n : Network) (h : Parts) (p : NodeNo) (r : ℕ) (ride : Ride) (leg : Leg) : Type 0 where
  pub on : Call
  pub off : Call
  pub seconds : ℕ
  pub is_ride : IsRide n ride on off
  pub walks : IsWalk (streets n) p leg.walk (node_of n on.stop) seconds
  pub way : IsLeastWay (streets n) h leg.walk
  pub in_time : r + seconds + n.buffer ≤ on.dep
  pub place : leg.place ≡ node_of n off.stop
  pub second : leg.second ≡ off.arr
  pub exists : IsNode h leg.place

pub record IsOnWay (n : Network) (h : Parts) (from : NodeNo) (depart : ℕ) (rides : List Ride) (to : NodeNo) (i : ℕ) (walks : List (List NodeNo)) (place : NodeNo) (second : ℕ) : Type 0 where
  pub exists : IsNode h place
  pub leads : (ws : List (List NodeNo)) (rs : List Ride) (t : NodeNo) (a : ℕ) → Travels n place second ws rs t a
      → Travels n from depart (walks ++ ws) (take i rides ++ rs) t a
  pub broken : IsBroken n h place second (drop i rides) to → IsBroken n h from depart rides to
  pub ways : All (IsLeastWay (streets n) h) walks
