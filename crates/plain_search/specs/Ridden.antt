-- What riding on from a row makes of it.
--     Leaves old new v r ride        the new row has a way to v by second r, and differs at most by the ride left there
--     IsCaught n before on           a passenger with the ways of the row is in time for the call
--     IsLeft n before v way          the way to v is to have just left a ride that was caught
--     RidesOn n before old new       each way of the new row is an old one or is so
--     IsBoarded n before trip k b    b is a call before the k-th that can be boarded in time, or None where there is none
--     IsRidden n before row ride     the ride leads from a caught call to no earlier arrival
use Rattle.std.specs.Prelude.{◌≡◌, ℕ, ◌+◌, ◌<◌, ◌≤◌, ◌⊎◌, [], ◌∷◌, length, IsTrue, Option, Some, None}
use Rattle.move_model.specs.declared.network.Network.{Network}
use Rattle.move_model.specs.declared.network.NodeNo.{NodeNo}
use Rattle.move_model.specs.declared.network.TripNo.{TripNo}
use Rattle.move_model.specs.declared.network.Call.{Call}
use Rattle.move_model.specs.declared.journey.Ride.{Ride}
use Rattle.move_model.specs.Network.{node_of}
use Rattle.move_model.specs.Journey.{HasCall, IsRide}
use Rattle.plain_search.specs.declared.way.Way.{Way}
use Rattle.plain_search.specs.Row.{Ways, IsWayTo, HasWayBy, NoLater}

pub record Leaves (old new : Ways) (node : NodeNo) (second : ℕ) (ride : Ride) : Type 0 where
  pub one_each : length new ≡ length old
  pub no_later : NoLater old new
  pub held : node.0 < length old → HasWayBy new node second
  pub left : (v : NodeNo) (way : Way) → IsWayTo new v way
      → IsWayTo old v way ⊎ ((v ≡ node) × (way ≡ record { second = second; walk = v ∷ []; ride = Some ride }))

pub record IsCaught (n : Network) (before : Ways) (on : Call) : Type 0 where
  pub ready : ℕ
  pub has_way : HasWayBy before (node_of n on.stop) ready
  pub in_time : ready + n.buffer ≤ on.dep

pub record IsLeft (n : Network) (before : Ways) (v : NodeNo) (way : Way) : Type 0 where
  pub ride : Ride
  pub on : Call
  pub off : Call
  pub is_ride : IsRide n ride on off
  pub caught : IsCaught n before on
  pub at : v ≡ node_of n off.stop
  pub way_is : way ≡ record { second = off.arr; walk = v ∷ []; ride = Some ride }

pub record RidesOn (n : Network) (before old new : Ways) : Type 0 where
  pub one_each : length new ≡ length old
  pub no_later : NoLater old new
  pub left : (v : NodeNo) (way : Way) → IsWayTo new v way → IsWayTo old v way ⊎ IsLeft n before v way

-- of the calls before a place, none can be boarded in time; or this one can
abbrev pub IsBoarded : Network → Ways → TripNo → ℕ → Option ℕ → Type 0
IsBoarded n before trip place None =
    (k : ℕ) (on : Call) → k < place → HasCall n trip k on → IsTrue on.board → IsCaught n before on → ⊥
IsBoarded n before trip place (Some board) =
    (on : Call) × (board < place) × HasCall n trip board on × IsTrue on.board × IsCaught n before on

abbrev pub IsRidden : Network → Ways → Ways → Ride → Type 0
IsRidden n before row ride =
    (on off : Call) → IsRide n ride on off → IsCaught n before on → (node_of n off.stop).0 < length row → HasWayBy row (node_of n off.stop) off.arr
