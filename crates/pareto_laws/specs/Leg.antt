-- The parts of a journey: a walk with the ride behind it, and the last walk.
-- A journey is any number of the first, each from where and when the one before it ends, and then the last walk.
--     IsLeg n p r walk ride q a    from p at second r by the walk and the ride to q, left at second a
--     LeadsOn n p walk             the vertices are a walk from p to somewhere
use Rattle.std.specs.Prelude.{◌≡◌, ℕ, ◌+◌, ◌≤◌, List}
use Rattle.move_model.specs.declared.network.Network.{Network}
use Rattle.move_model.specs.declared.network.NodeNo.{NodeNo}
use Rattle.move_model.specs.declared.network.Call.{Call}
use Rattle.move_model.specs.declared.journey.Ride.{Ride}
use Rattle.move_model.specs.Streets.{IsWalk}
use Rattle.move_model.specs.Network.{streets, node_of}
use Rattle.move_model.specs.Journey.{IsRide}

-- the walk ends where the ride is boarded, in time and with the buffer
pub record IsLeg (n : Network) (p : NodeNo) (r : ℕ) (walk : List NodeNo) (ride : Ride) (q : NodeNo) (a : ℕ) : Type 0 where
  pub on : Call
  pub off : Call
  pub seconds : ℕ
  pub is_ride : IsRide n ride on off
  pub is_walk : IsWalk (streets n) p walk (node_of n on.stop) seconds
  pub in_time : r + seconds + n.buffer ≤ on.dep
  pub left_at : q ≡ node_of n off.stop
  pub left_when : a ≡ off.arr

-- the vertices are a walk from p to somewhere
pub record LeadsOn (n : Network) (p : NodeNo) (walk : List NodeNo) : Type 0 where
  pub to : NodeNo
  pub seconds : ℕ
  pub is_walk : IsWalk (streets n) p walk to seconds
