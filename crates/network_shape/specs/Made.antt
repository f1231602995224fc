-- Arcs that stand for two others.
--     IsBelowEnds ranks arc      the middle is a vertex of lesser rank than both ends
--     AddsUp up down arc         an arc down to the middle and an arc up from it have the seconds together
use Rattle.std.specs.Prelude.{◌≡◌, ◌+◌, ◌-◌, ◌<◌, ◌≤◌, ℕ, List, length, slice_index}
use Rattle.walk_hierarchy.specs.declared.arcs.UpDown.{UpDown}
use Rattle.walk_hierarchy.specs.Hierarchy.{HasArc}

pub record IsBelowEnds (ranks : List ℕ) (arc : UpDown) : Type 0 where
  pub from_one : 1 ≤ arc.middle.0
  pub to_nodes : arc.middle.0 ≤ length ranks
  pub below_from : slice_index ranks (arc.middle.0 - 1) < slice_index ranks (arc.from.0 - 1)
  pub below_to : slice_index ranks (arc.middle.0 - 1) < slice_index ranks (arc.to.0 - 1)

pub record AddsUp (up down : List UpDown) (arc : UpDown) : Type 0 where
  pub l : ℕ
  pub k : ℕ
  pub first : HasArc down arc.from.0 arc.middle.0 l
  pub second : HasArc up arc.middle.0 arc.to.0 k
  pub total : l + k ≡ arc.seconds
