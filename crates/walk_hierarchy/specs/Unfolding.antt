-- Arcs that are unfolded into streets.
--     IsArcOf h arc              the arc is an arc up or an arc down of h
--     IsStack arcs p b m         the arcs, from the last to the first, lead from p to b, with m seconds in all
--     IsUnfolding graph a b m arcs way    the way so far, and then the stacked arcs, lead from a to b in m seconds
use Rattle.std.specs.Prelude.{◌≡◌, ℕ, ◌+◌, ◌⊎◌, List, [], ◌∷◌, Contains}
use Rattle.move_model.specs.declared.network.NodeNo.{NodeNo}
use Rattle.move_model.specs.Streets.{Streets}
use Rattle.walk_hierarchy.specs.declared.arcs.UpDown.{UpDown}
use Rattle.walk_hierarchy.specs.declared.way.Way.{Way}
use Rattle.walk_hierarchy.specs.Hierarchy.{Parts}
use Rattle.walk_hierarchy.specs.Way.{IsWay}

abbrev pub IsArcOf : Parts → UpDown → Type 0
IsArcOf h arc = Contains h.up arc ⊎ Contains h.down arc

-- the arc that stands first is the last one before b
pub data IsStack : List UpDown → NodeNo → NodeNo → ℕ → Type 0 where
  none : {p : NodeNo} → IsStack [] p p 0
  more : {p b : NodeNo} {arc : UpDown} {arcs : List UpDown} {m : ℕ} → arc.to ≡ b → IsStack arcs p arc.from m → IsStack (arc ∷ arcs) p b (m + arc.seconds)

pub record IsUnfolding (graph : Streets) (a b : NodeNo) (total : ℕ) (arcs : List UpDown) (way : Way) : Type 0 where
  pub at : NodeNo
  pub walked : ℕ
  pub ahead : ℕ
  pub walks : IsWay graph a at walked way.places.items way.since
  pub stacked : IsStack arcs at b ahead
  pub all : walked + ahead ≡ total
