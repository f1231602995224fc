-- The streets of a city of `side` rows and columns, which are counted from 0.
--     vertex side i j            the vertex in row i and column j
--     streets_from side v        the streets to the neighbours of v on the right and below
--     city_streets side          these of all vertices, from vertex 1
--     both_ways number (k, street)   the arc and then the arc back, with the seconds of draw k
--     city_arcs side number first    the arcs, where the draw `first` is that of the first street
use Rattle.std.specs.Prelude.{ℕ, ◌+◌, ◌-◌, ◌*◌, ◌/◌, ◌%◌, nat_lt, if◌then◌else◌, List, [], ◌∷◌, ◌++◌}
use Rattle.std.specs.List.{flat_map, range_with_len, enumerate_from}
use Rattle.move_model.specs.declared.network.NodeNo.{NodeNo}
use Rattle.move_model.specs.declared.network.Arc.{Arc}
use Rattle.city_maker.specs.Draws.{draw}

abbrev pub node : ℕ → NodeNo
node v = record { 0 = v }

abbrev pub vertex : ℕ → ℕ → ℕ → NodeNo
vertex side i j = node (i * side + j + 1)

abbrev pub row_of : ℕ → ℕ → ℕ
row_of side v = (v - 1) / side

abbrev pub column_of : ℕ → ℕ → ℕ
column_of side v = (v - 1) % side

-- a street between two vertices
pub record Street : Type 0 where
  pub from : ℕ
  pub to : ℕ

abbrev pub street_right : ℕ → ℕ → List Street
street_right side v = if nat_lt (column_of side v + 1) side then (record { from = v; to = v + 1 }) ∷ [] else []

abbrev pub street_below : ℕ → ℕ → List Street
street_below side v = if nat_lt (row_of side v + 1) side then (record { from = v; to = v + side }) ∷ [] else []

abbrev pub streets_from : ℕ → ℕ → List Street
streets_from side v = street_right side v ++ street_below side v

abbrev pub city_streets : ℕ → List Street
city_streets side = flat_map (streets_from side) (range_with_len 1 (side * side))

-- from one minute to two
abbrev pub walk_seconds : ℕ → ℕ → ℕ
walk_seconds number k = 60 + draw number k % 61

abbrev pub both_ways : ℕ → ℕ × Street → List Arc
both_ways number (k, street) =
    (record { from = node street.from; to = node street.to; seconds = walk_seconds number k })
    ∷ (record { from = node street.to; to = node street.from; seconds = walk_seconds number k })
    ∷ []

abbrev pub city_arcs : ℕ → ℕ → ℕ → List Arc
city_arcs side number first = flat_map (both_ways number) (enumerate_from first (city_streets side))
