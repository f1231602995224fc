-- The cells of a grid.
--     Within inner outer            the points of the one cell are among those of the other
--     key_of target cell            the least square that a point of the cell may have, with the cell's least number
--     IsBefore, IsNoLater           the order of keys: by squares, then by numbers
--     cell_at d p                   the cell of the d-th grid that holds the p-th cell of the finest
--     AreLevels levels              the finest grid has a cell for each point, and each grid but the last has its parents behind it
use Rattle.std.specs.Prelude.{◌≡◌, ℕ, ℤ, zero, suc, ◌-ℤ◌, ◌+◌, ◌*◌, ◌/◌, ◌<◌, ◌≤◌, ◌≤ℤ◌, ◌⊎◌, pos, List, [], length, slice_index_or, int_lt, if◌then◌else◌, unsigned_abs}
use Rattle.street_graph.specs.declared.point.Point.{Point}
use Rattle.stop_match.specs.declared.cell.Cell.{Cell}
use Rattle.stop_match.specs.declared.target.Key.{Key}
use Rattle.stop_match.specs.declared.target.Target.{Target}
use Rattle.stop_match.specs.Nearest.{squared}

-- the bounds of the one cell lie in those of the other, whose number is no greater
pub record Within (inner outer : Cell) : Type 0 where
  pub lat_low : outer.lat_low ≤ℤ inner.lat_low
  pub lat_high : inner.lat_high ≤ℤ outer.lat_high
  pub lon_low : outer.lon_low ≤ℤ inner.lon_low
  pub lon_high : inner.lon_high ≤ℤ outer.lon_high
  pub least : outer.least ≤ inner.least

-- the cell of one point
abbrev pub cell_of : Point → ℕ → Cell
cell_of point number =
    record { lat_low = point.lat; lat_high = point.lat; lon_low = point.lon; lon_high = point.lon; least = number }

-- how far a coordinate is from a range
abbrev pub gap : ℤ → ℤ → ℤ → ℕ
gap at low high =
    if int_lt at low then unsigned_abs (at -ℤ low) else if int_lt high at then unsigned_abs (at -ℤ high) else 0

-- the square of a weighted distance
abbrev pub square_of : ℕ → ℕ → ℕ
square_of weight distance = squared (weight * distance)

-- no point of the cell is nearer than its bounds, and none has a lesser number
unfoldable pub key_of : Target → Cell → Key
key_of target cell = record {
  square = square_of 1000 (gap target.lat cell.lat_low cell.lat_high) + square_of target.scale (gap target.lon cell.lon_low cell.lon_high);
  number = cell.least;
}

-- nearer, or as near with a lesser number
abbrev pub IsBefore : Key → Key → Type 0
IsBefore k m = (k.square < m.square) ⊎ ((k.square ≡ m.square) × (k.number < m.number))

-- before the other, or the same
abbrev pub IsNoLater : Key → Key → Type 0
IsNoLater k m = (k.square < m.square) ⊎ ((k.square ≡ m.square) × (k.number ≤ m.number))

-- the cell past the end of a grid
abbrev pub no_cell : Cell
no_cell = cell_of (record { lat = pos 0; lon = pos 0 }) 0

-- the cell above the p-th cell of the finest grid: eight cells of a grid are in one of the next coarser
abbrev pub cell_at : ℕ → ℕ → ℕ
cell_at zero p = p
cell_at (suc d) p = cell_at d p / 8

-- the cells of the d-th grid, from the finest
abbrev pub cells : List (List Cell) → ℕ → List Cell
cells levels d = slice_index_or levels d []

-- the j-th cell of the d-th grid
abbrev pub cell : List (List Cell) → ℕ → ℕ → Cell
cell levels d j = slice_index_or (cells levels d) j no_cell

-- each cell of a grid is within its cell of the next coarser grid, and each cell of that grid holds some
pub record AreParents (fine coarse : List Cell) : Type 0 where
  pub within : (c : ℕ) (d e : Cell) → c < length fine → Within (slice_index_or fine c d) (slice_index_or coarse (c / 8) e)
  pub many : (c : ℕ) → c < length fine → c / 8 < length coarse
  pub some : (c : ℕ) → c < length coarse → c * 8 < length fine

-- a cell of one point
pub record IsPoint (cell : Cell) : Type 0 where
  pub lat : cell.lat_low ≡ cell.lat_high
  pub lon : cell.lon_low ≡ cell.lon_high

-- the finest grid has a cell for each point, and each grid but the last has its parents behind it
pub record AreLevels (levels : List (List Cell)) : Type 0 where
  pub points : (p : ℕ) (d : Cell) → p < length (cells levels 0) → IsPoint (slice_index_or (cells levels 0) p d)
  pub parents : (d : ℕ) → d + 1 < length levels → AreParents (cells levels d) (cells levels (d + 1))
