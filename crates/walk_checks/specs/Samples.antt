-- Small hierarchies, for the tests.
--     street p q seconds         an arc of a street graph
--     arc_by p q seconds middle  an arc of a hierarchy
--     pairs                      four vertices, of which two pairs are joined both ways
--     line l m                   vertices 1, 2 and 3 in a line, of which 2 has the least rank, with an arc up from 1 to 3
use Rattle.std.specs.Prelude.{ℕ, [], ◌∷◌}
use Rattle.move_model.specs.declared.network.Arc.{Arc}
use Rattle.move_model.specs.Streets.{Streets}
use Rattle.walk_hierarchy.specs.declared.arcs.UpDown.{UpDown}
use Rattle.walk_hierarchy.specs.Hierarchy.{Parts}

abbrev pub street : ℕ → ℕ → ℕ → Arc
street p q seconds = record { from = record { 0 = p }; to = record { 0 = q }; seconds = seconds }

abbrev pub arc_by : ℕ → ℕ → ℕ → ℕ → UpDown
arc_by p q seconds middle = record { from = record { 0 = p }; to = record { 0 = q }; seconds = seconds; middle = record { 0 = middle } }

abbrev pub pairs_streets : Streets
pairs_streets = record { nodes = 4; arcs = street 2 3 240 ∷ street 3 2 240 ∷ street 1 4 7200 ∷ street 4 1 7200 ∷ [] }

abbrev pub pairs : Parts
pairs = record {
  ranks = 0 ∷ 1 ∷ 2 ∷ 3 ∷ [];
  up = arc_by 1 4 7200 0 ∷ arc_by 2 3 240 0 ∷ [];
  down = arc_by 3 2 240 0 ∷ arc_by 4 1 7200 0 ∷ [];
}

abbrev pub line_streets : Streets
line_streets = record { nodes = 3; arcs = street 1 2 100 ∷ street 2 3 140 ∷ street 3 2 140 ∷ street 1 3 500 ∷ [] }

-- the arc from 1 to 3 has these seconds and this middle
abbrev pub line : ℕ → ℕ → Parts
line seconds middle = record {
  ranks = 1 ∷ 0 ∷ 2 ∷ [];
  up = arc_by 1 3 seconds middle ∷ arc_by 2 3 140 0 ∷ [];
  down = arc_by 1 2 100 0 ∷ arc_by 3 2 140 0 ∷ [];
}
