-- Walks between stops.
--     walk_between n walks x y   what the rows of distances from the stops say of two stops
--     IsCaughtBy n x z on m      a walk of m seconds from x at second z is in time for the call
--     HoldsWalks n walks         each stop has the row of the distances from its vertex
use Rattle.std.specs.Prelude.{◌≡◌, ℕ, ◌+◌, ◌<◌, ◌≤◌, List, [], length, slice_index_or, Option, None}
use Rattle.move_model.specs.declared.network.Network.{Network}
use Rattle.move_model.specs.declared.network.StopNo.{StopNo}
use Rattle.move_model.specs.declared.network.Call.{Call}
use Rattle.move_model.specs.Network.{node_of, IsStopDistance}
use Rattle.plain_search.specs.Answer.{HoldsDistances}

abbrev pub walk_between : Network → List (List (Option ℕ)) → StopNo → StopNo → Option ℕ
walk_between n walks x y = slice_index_or (slice_index_or walks x.0 []) (node_of n y).0 None

pub record HoldsWalks (n : Network) (walks : List (List (Option ℕ))) : Type 0 where
  pub one_each : length walks ≡ length n.stops
  pub distances : (x : StopNo) → x.0 < length n.stops → HoldsDistances n (node_of n x) (slice_index_or walks x.0 [])

pub record IsCaughtBy (n : Network) (x : StopNo) (z : ℕ) (on : Call) (m : ℕ) : Type 0 where
  pub to_it : IsStopDistance n x on.stop m
  pub in_time : z + m + n.buffer ≤ on.dep
