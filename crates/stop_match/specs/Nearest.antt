-- The vertex nearest to a place.
--     square_distance lat lon scale point     (1000 * dlat)^2 + (scale * dlon)^2, in millionths of a degree
--     IsNearest points lat lon scale v        v has the least square, and no vertex of a lesser number has it too
use Rattle.std.specs.Prelude.{◌≡◌, ℕ, ℤ, ◌-ℤ◌, ◌-◌, ◌+◌, ◌*◌, ◌<◌, ◌≤◌, List, slice_get, Some, unsigned_abs}
use Rattle.move_model.specs.declared.network.NodeNo.{NodeNo}
use Rattle.street_graph.specs.declared.point.Point.{Point}

abbrev pub squared : ℕ → ℕ
squared n = n * n

abbrev pub square_distance : ℤ → ℤ → ℕ → Point → ℕ
square_distance lat lon scale point =
    squared (1000 * unsigned_abs (lat -ℤ point.lat)) + squared (scale * unsigned_abs (lon -ℤ point.lon))

-- the points stand by vertex, from 1
abbrev pub HasPoint : List Point → NodeNo → Point → Type 0
HasPoint points v point = (1 ≤ v.0) × (slice_get points (v.0 - 1) ≡ Some point)

-- v has a point; no vertex is nearer; and each vertex of a lesser number is farther
pub record IsNearest (points : List Point) (lat lon : ℤ) (scale : ℕ) (v : NodeNo) : Type 0 where
  pub point : Point
  pub stands : HasPoint points v point
  pub nearest : (w : NodeNo) (other : Point) → HasPoint points w other
      → square_distance lat lon scale point ≤ square_distance lat lon scale other
  pub first : (w : NodeNo) (other : Point) → HasPoint points w other → w.0 < v.0
      → square_distance lat lon scale point < square_distance lat lon scale other
