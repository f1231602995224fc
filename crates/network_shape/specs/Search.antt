-- Arcs by their ends, in a list that stands in its order.
--     HasEnds arc from to        the arc leads from the one vertex to the other
--     IsEarlier arc from to      the arc stands before those that do
--     IsBetween arcs from to low high    the arcs before the place low are earlier ones, and those from high on aren't
--     StandsAt arcs from to place        the arc at the place has these ends
--     HasNone arcs from to       no arc has these ends
use Rattle.std.specs.Prelude.{◌≡◌, ◌<◌, ◌≤◌, ◌⊎◌, ℕ, List, length, slice_index_or}
use Rattle.move_model.specs.declared.network.NodeNo.{NodeNo}
use Rattle.walk_hierarchy.specs.declared.arcs.UpDown.{UpDown}

abbrev pub HasEnds : UpDown → NodeNo → NodeNo → Type 0
HasEnds arc from to = (arc.from.0 ≡ from.0) × (arc.to.0 ≡ to.0)

abbrev pub IsEarlier : UpDown → NodeNo → NodeNo → Type 0
IsEarlier arc from to = (arc.from.0 < from.0) ⊎ ((arc.from.0 ≡ from.0) × (arc.to.0 < to.0))

pub record IsBetween (arcs : List UpDown) (from to : NodeNo) (low high : ℕ) : Type 0 where
  pub order : low ≤ high
  pub within : high ≤ length arcs
  pub before : (k : ℕ) (d : UpDown) → k < low → IsEarlier (slice_index_or arcs k d) from to
  pub behind : (k : ℕ) (d : UpDown) → high ≤ k → k < length arcs → ¬ (IsEarlier (slice_index_or arcs k d) from to)

pub record StandsAt (arcs : List UpDown) (from to : NodeNo) (place : ℕ) : Type 0 where
  pub within : place < length arcs
  pub ends : (d : UpDown) → HasEnds (slice_index_or arcs place d) from to

abbrev pub HasNone : List UpDown → NodeNo → NodeNo → Type 0
HasNone arcs from to = (k : ℕ) (d : UpDown) → k < length arcs → ¬ (HasEnds (slice_index_or arcs k d) from to)
