-- The rows of a search, one for each number of rides from 0.
--     Starts n s d before v r ride   a walk may start at v at second r: at the source, or where a caught ride is left
--     IsWayOf n s d before v way     the way to v is a walk from such a start, in time
--     IsSourceRow n s d row          the row has the one way that is to be at s
--     IsLevel n s d before row       the row of the best ways with at most one ride more than the row before it
--     IsTable n s d rows             each row is the level above the row before it
use Rattle.std.specs.Prelude.{◌≡◌, ℕ, zero, suc, ◌+◌, ◌<◌, ◌≤◌, List, [], ◌∷◌, length, slice_index_or, Option, Some, None}
use Rattle.move_model.specs.declared.network.Network.{Network}
use Rattle.move_model.specs.declared.network.NodeNo.{NodeNo}
use Rattle.move_model.specs.declared.network.Call.{Call}
use Rattle.move_model.specs.declared.journey.Ride.{Ride}
use Rattle.move_model.specs.Streets.{IsVertex, IsWalk}
use Rattle.move_model.specs.Network.{streets, node_of}
use Rattle.move_model.specs.Journey.{IsRide}
use Rattle.plain_search.specs.declared.way.Way.{Way}
use Rattle.plain_search.specs.Row.{Ways, IsWayTo, HasWayBy, NoLater, IsWhole, IsWalked}
use Rattle.plain_search.specs.Ridden.{IsCaught}

pub data Starts (n : Network) (s : NodeNo) (d : ℕ) (before : Ways) : NodeNo → ℕ → Option Ride → Type 0 where
  at_source : IsVertex (streets n) s → Starts n s d before s d None
  off_ride : {ride : Ride} {on off : Call} → IsRide n ride on off → IsCaught n before on → Starts n s d before (node_of n off.stop) off.arr (Some ride)

pub record IsWayOf (n : Network) (s : NodeNo) (d : ℕ) (before : Ways) (v : NodeNo) (way : Way) : Type 0 where
  pub place : NodeNo
  pub since : ℕ
  pub starts : Starts n s d before place since way.ride
  pub seconds : ℕ
  pub walks : IsWalk (streets n) place way.walk v seconds
  pub in_time : since + seconds ≤ way.second

pub record IsLevel (n : Network) (s : NodeNo) (d : ℕ) (before row : Ways) : Type 0 where
  pub one_each : length row ≡ n.nodes + 1
  pub whole : IsWhole row
  pub no_later : NoLater before row
  pub walked : IsWalked n.arcs row
  pub started : (v : NodeNo) (r : ℕ) (ride : Option Ride) → Starts n s d before v r ride → HasWayBy row v r
  pub ways : (v : NodeNo) (way : Way) → IsWayTo row v way → IsWayOf n s d before v way

-- the row of the one way that is to be at the source at second d, where that is a vertex
pub record IsSourceRow (n : Network) (s : NodeNo) (d : ℕ) (row : Ways) : Type 0 where
  pub one_each : length row ≡ n.nodes + 1
  pub there : IsVertex (streets n) s → HasWayBy row s d
  pub only : (v : NodeNo) (way : Way) → IsWayTo row v way
      → (v ≡ s) × IsVertex (streets n) s × (way ≡ record { second = d; walk = s ∷ []; ride = None })

-- none before the first
abbrev pub before_of : List Ways → ℕ → Ways
before_of rows zero = []
before_of rows (suc k) = slice_index_or rows k []

pub record IsTable (n : Network) (s : NodeNo) (d : ℕ) (rows : List Ways) : Type 0 where
  pub levels : (k : ℕ) → k < length rows → IsLevel n s d (before_of rows k) (slice_index_or rows k [])
