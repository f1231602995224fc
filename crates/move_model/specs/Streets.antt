-- Street graphs, walks and distances.
--     IsVertex g v               v is a vertex of g
--     IsStreets g                g keeps the rules of a street graph
--     IsLeastArc arcs p q m      the least arc from p to q has m seconds
--     IsWalk g a vs b m          vs is a walk from a to b, of m seconds
--     IsDistance g a b m         the least walk from a to b has m seconds
--     HasDistance g a b r        r is the distance from a to b, or None where there is no walk
use Rattle.std.specs.Prelude.{ℕ, ◌+◌, ◌≤◌, List, [], ◌∷◌, All, Contains, Option, Some, None}
use Rattle.move_model.specs.declared.network.NodeNo.{NodeNo}
use Rattle.move_model.specs.declared.network.Arc.{Arc}

-- a street graph: vertices from 1 to `nodes`, and arcs
pub record Streets : Type 0 where
  pub nodes : ℕ
  pub arcs : List Arc

pub record IsVertex (g : Streets) (v : NodeNo) : Type 0 where
  pub from_one : 1 ≤ v.0
  pub to_nodes : v.0 ≤ g.nodes

pub record IsStreets (g : Streets) : Type 0 where
  pub has_node : 1 ≤ g.nodes
  pub arcs_join : All (λ arc. IsVertex g arc.from × IsVertex g arc.to) g.arcs

-- some arc has these ends and seconds, and no arc with these ends has fewer
pub record IsLeastArc (arcs : List Arc) (p q : NodeNo) (seconds : ℕ) : Type 0 where
  pub attained : Contains arcs (record { from = p; to = q; seconds = seconds })
  pub least : (m : ℕ) → Contains arcs (record { from = p; to = q; seconds = m }) → seconds ≤ m

-- a walk stays at its vertex, or goes along a least arc and then on
pub data IsWalk (g : Streets) : NodeNo → List NodeNo → NodeNo → ℕ → Type 0 where
  stays : {v : NodeNo} → IsVertex g v → IsWalk g v (v ∷ []) v 0
  goes : {a v b : NodeNo} {vs : List NodeNo} {l m : ℕ} → IsLeastArc g.arcs a v l → IsWalk g v vs b m → IsWalk g a (a ∷ vs) b (l + m)

-- some walk has these seconds, and none has fewer
pub record IsDistance (g : Streets) (a b : NodeNo) (seconds : ℕ) : Type 0 where
  pub attained : (vs : List NodeNo) × IsWalk g a vs b seconds
  pub least : (vs : List NodeNo) (m : ℕ) → IsWalk g a vs b m → seconds ≤ m

abbrev pub HasDistance : Streets → NodeNo → NodeNo → Option ℕ → Type 0
HasDistance g a b (Some seconds) = IsDistance g a b seconds
HasDistance g a b None = (vs : List NodeNo) (m : ℕ) → IsWalk g a vs b m → ⊥

-- the seconds of the least arc, or None where no arc has these ends
abbrev pub HasLeastArc : List Arc → NodeNo → NodeNo → Option ℕ → Type 0
HasLeastArc arcs p q (Some seconds) = IsLeastArc arcs p q seconds
HasLeastArc arcs p q None = (m : ℕ) → Contains arcs (record { from = p; to = q; seconds = m }) → ⊥

-- the seconds of the list as a walk between these vertices, or None where it is no such walk
abbrev pub HasWalkSeconds : Streets → NodeNo → List NodeNo → NodeNo → Option ℕ → Type 0
HasWalkSeconds g a vs b (Some seconds) = IsWalk g a vs b seconds
HasWalkSeconds g a vs b None = (m : ℕ) → IsWalk g a vs b m → ⊥
