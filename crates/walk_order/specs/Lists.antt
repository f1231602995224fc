-- The lists of a hierarchy, as a core gives them.
--     row_at side core v             the arcs up out of the vertex v, or the arcs down into it
--     with_ends side v arc           such an arc, with both ends
--     AreArcsOf side core n arcs     the arcs are those of the vertices from 1 to n, each once
--     AreRanksOf core ranks          the rank of each contracted vertex is its place in the order
--     ends_of arc                    what arcs are ordered by
use Rattle.std.specs.Prelude.{◌≡◌, ◌≢◌, ℕ, ◌+◌, ◌*◌, ◌-◌, ◌≤◌, List, All, AllPairs, Contains, length, slice_index, slice_get, Some}
use Rattle.move_model.specs.declared.network.NodeNo.{NodeNo}
use Rattle.walk_laws.specs.declared.CoreArc.{CoreArc}
use Rattle.walk_core.specs.Core.{Contraction, up_row, down_row}
use Rattle.walk_hierarchy.specs.declared.arcs.UpDown.{UpDown}
use Rattle.walk_order.specs.declared.arcs.Side.{Side}
use Rattle.walk_order.specs.declared.arcs.Side.TheVariants.{Up, Down}

abbrev pub row_at : Side → Contraction → ℕ → List CoreArc
row_at Up core v = up_row core v
row_at Down core v = down_row core v

abbrev pub with_ends : Side → NodeNo → CoreArc → UpDown
with_ends Up v arc = record { from = v; to = arc.to; seconds = arc.seconds; middle = arc.middle }
with_ends Down v arc = record { from = arc.to; to = v; seconds = arc.seconds; middle = arc.middle }

-- by the vertex where an arc begins, and then by that at its end
abbrev pub ends_of : UpDown → ℕ
ends_of arc = arc.from.0 * 4294967296 + arc.to.0

-- an arc of a vertex from 1 to n
pub record IsArcOf (side : Side) (core : Contraction) (n : ℕ) (arc : UpDown) : Type 0 where
  pub node : NodeNo
  pub half : CoreArc
  pub from_one : 1 ≤ node.0
  pub low : node.0 ≤ n
  pub stands : Contains (row_at side core node.0) half
  pub is : arc ≡ with_ends side node half

pub record AreArcsOf (side : Side) (core : Contraction) (n : ℕ) (arcs : List UpDown) : Type 0 where
  pub only : All (IsArcOf side core n) arcs
  pub each : (v : NodeNo) (half : CoreArc) → 1 ≤ v.0 → v.0 ≤ n → Contains (row_at side core v.0) half → Contains arcs (with_ends side v half)
  pub once : AllPairs (λ arc other. ends_of arc ≢ ends_of other) arcs

pub record AreRanksOf (core : Contraction) (ranks : List ℕ) : Type 0 where
  pub many : length ranks ≡ core.nodes
  pub places : (k : ℕ) (v : NodeNo) → slice_get core.contracted k ≡ Some v → slice_index ranks (v.0 - 1) ≡ k
