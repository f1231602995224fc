-- The points of a grid, in any order.
--     AreAllPlaces places n              the places of n vertices, by number
--     AreCellsOf cells places points     each cell is that of the point of the place's vertex
--     ArePointCells cells points         each cell is that of a point, and each point has one
use Rattle.std.specs.Prelude.{◌≡◌, ◌≤◌, ◌<◌, ◌+◌, ◌-◌, ℕ, List, length, slice_get, slice_index_or, Some}
use Rattle.street_graph.specs.declared.point.Point.{Point}
use Rattle.stop_match.specs.declared.cell.Cell.{Cell}
use Rattle.stop_match.specs.declared.order.Place.{Place}
use Rattle.stop_match.specs.Cell.{cell_of}

-- the number is that of one of so many vertices
pub record IsPlace (place : Place) (many : ℕ) : Type 0 where
  pub from_one : 1 ≤ place.number
  pub to_many : place.number ≤ many

-- the places of so many vertices, by number
pub record AreAllPlaces (places : List Place) (many : ℕ) : Type 0 where
  pub each : length places ≡ many
  pub numbers : (i : ℕ) (d : Place) → i < many → (slice_index_or places i d).number ≡ i + 1

-- each cell is that of the point of the place's vertex
pub record AreCellsOf (cells : List Cell) (places : List Place) (points : List Point) : Type 0 where
  pub each : length cells ≡ length places
  pub stands : (i : ℕ) (c : Cell) (p : Place) (d : Point) → i < length places
      → slice_index_or cells i c ≡ cell_of (slice_index_or points ((slice_index_or places i p).number - 1) d) (slice_index_or places i p).number

-- each cell is that of a point with its number, and each point has such a cell
pub record ArePointCells (cells : List Cell) (points : List Point) : Type 0 where
  pub real : (p : ℕ) (d : Cell) → p < length cells
      → (k : ℕ) × (point : Point) × (slice_get points k ≡ Some point) × (slice_index_or cells p d ≡ cell_of point (k + 1))
  pub there : (k : ℕ) (point : Point) (d : Cell) → slice_get points k ≡ Some point
      → (p : ℕ) × (p < length cells) × (slice_index_or cells p d ≡ cell_of point (k + 1))
