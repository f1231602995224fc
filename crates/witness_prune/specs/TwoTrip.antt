-- The search from one stop, as contracts see it.
--     Stepping                      a network, the stop, below which second the next step must be, and whether the search is given up
--     IsTwoTrip n rows table .. x   what it keeps true of what it holds
use Rattle.std.specs.Prelude.{◌≡◌, ℕ, ◌<◌, Bool, List, length}
use Rattle.move_model.specs.declared.network.Network.{Network}
use Rattle.move_model.specs.declared.network.StopNo.{StopNo}
use Rattle.route_split.specs.Route.{Route}
use Rattle.route_split.specs.Table.{Table}
use Rattle.stop_rows.specs.Rows.{Rows, place_at}
use Rattle.witness_prune.specs.declared.scratch.Scratch.{Scratch}
use Rattle.witness_prune.specs.Search.{IsSearch}

pub record Stepping : Type 0 where
  pub network : Network
  pub stop : StopNo
  pub below : ℕ
  pub given_up : Bool

-- the search of a stop's place; it can make a step until memory was wanting, and stands at the place of the stop
pub record IsTwoTrip (n : Network) (rows : Rows) (table : Table) (routes : List Route) (place below : ℕ) (s : Scratch) (x : StopNo) : Type 0 where
  pub search : IsSearch n rows table routes place below s
  pub exists : x.0 < length n.stops
  pub stands : place_at rows x ≡ place
