-- The search for needed walks, as contracts see it.
--     Searching                     a network, its rows, the place where the search stands, and below which second the next step must be
--     IsNeededFrom n rows place z x y   a candidate of some stop of the place that nothing betters walks from x to y
--     AreParts n rows table         the rows and the table are those of a network that keeps the rules
--     IsSearch n rows table ..      what a search keeps true of what it holds
use Rattle.std.specs.Prelude.{◌≡◌, ℕ, ◌-◌, ◌^◌, ◌<◌, List, [], ◌∷◌, map, length, All}
use Rattle.move_model.specs.declared.network.Network.{Network}
use Rattle.move_model.specs.declared.network.StopNo.{StopNo}
use Rattle.move_model.specs.Check.{KeepsRules}
use Rattle.route_split.specs.Route.{Route, IsRoute}
use Rattle.route_split.specs.Routes.{AreRoutes}
use Rattle.route_split.specs.Table.{Table}
use Rattle.route_split.specs.Calls.{IsTableOf}
use Rattle.stop_rows.specs.Rows.{Rows, HoldsRows, place_at}
use Rattle.piece_laws.specs.Pieces.{IsNeeded}
use Rattle.witness_prune.specs.declared.scratch.Scratch.{Scratch}
use Rattle.witness_prune.specs.Scratch.{FitsScratch, IsAt}

pub record Searching : Type 0 where
  pub network : Network
  pub rows : Rows
  pub place : ℕ
  pub below : ℕ

pub record IsNeededFrom (n : Network) (rows : Rows) (place z : ℕ) (x y : StopNo) : Type 0 where
  pub u : StopNo
  pub exists : u.0 < length n.stops
  pub stands : place_at rows u ≡ place
  pub needed : IsNeeded n (u ∷ []) z x y

pub record AreParts (n : Network) (rows : Rows) (table : Table) : Type 0 where
  pub rules : KeepsRules n
  pub few : length n.stops < 2 ^ 32 - 1
  pub rows_are : HoldsRows n rows
  pub table_is : IsTableOf n table
  pub routes_are : AreRoutes n.trips (map (λ route. route.trips) table.routes)

-- once a step may be made, the memory holds what is kept at the place
pub record IsSearch (n : Network) (rows : Rows) (table : Table) (routes : List Route) (place below : ℕ) (s : Scratch) : Type 0 where
  pub parts : AreParts n rows table
  pub routes_are : routes ≡ table.routes
  pub whole : All (IsRoute (length n.stops)) routes
  pub fits : FitsScratch routes rows s
  pub at : 0 < below → IsAt n rows routes place below s
