-- The grids of some points, from the finest.
--     AreRising levels points        each grid but the last has its parents behind it
--     AreLevelsOf levels points      the same, up to a grid of one cell
use Rattle.std.specs.Prelude.{◌≡◌, ◌<◌, ◌-◌, ◌+◌, ℕ, List, length}
use Rattle.street_graph.specs.declared.point.Point.{Point}
use Rattle.stop_match.specs.declared.cell.Cell.{Cell}
use Rattle.stop_match.specs.Cell.{AreParents, cells}
use Rattle.stop_match.specs.Place.{ArePointCells}

-- the finest grid has a cell for each point, and each grid but the last has its parents behind it
pub record AreRising (levels : List (List Cell)) (points : List Point) : Type 0 where
  pub finest : ArePointCells (cells levels 0) points
  pub parents : (d : ℕ) → d + 1 < length levels → AreParents (cells levels d) (cells levels (d + 1))

-- the same, and the last grid has one cell
pub record AreLevelsOf (levels : List (List Cell)) (points : List Point) : Type 0 where
  pub some : 0 < length levels
  pub rising : AreRising levels points
  pub coarsest : length (cells levels (length levels - 1)) ≡ 1
