-- Least arcs by their ends.
--     ends_key p q            both ends as one number, in which the vertex where an arc begins counts more
--     key_of arc              that number of an arc's ends
--     TellsLeastArcs as bs    between any two vertices, the least of the arcs as is the least of the arcs bs
use Rattle.std.specs.Prelude.{ℕ, ◌+◌, ◌*◌, List, Option}
use Rattle.move_model.specs.declared.network.NodeNo.{NodeNo}
use Rattle.move_model.specs.declared.network.Arc.{Arc}
use Rattle.move_model.specs.Streets.{HasLeastArc}

abbrev pub ends_key : NodeNo → NodeNo → ℕ
ends_key p q = p.0 * 4294967296 + q.0

abbrev pub key_of : Arc → ℕ
key_of arc = ends_key arc.from arc.to

-- what is the least arc of the one list, or that there is none, is so of the other
abbrev pub TellsLeastArcs : List Arc → List Arc → Type 0
TellsLeastArcs told arcs = (p q : NodeNo) (seconds : Option ℕ) → HasLeastArc told p q seconds → HasLeastArc arcs p q seconds
