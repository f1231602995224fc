-- Vertices by rank: the place of a vertex is one more than its rank.
--     IsAt ranks v               v is a vertex
--     place_of ranks v           the place of the vertex v
--     place_arc ranks arc        the arc, with the places of its ends
--     placed ranks arcs          the arcs, with the places of their ends
--     AreNames ranks names       the names are the vertices by place
--     label_name names x         the label x, with the vertex of its parent
--     settled_name names entry   the entry, with the vertex of its place
--     meeting_name names m       the meeting m, with the vertex of its place
--     by_vertex ranks names labels   the labels by vertex, for labels by place
--     IsPlaced ranks way p q l   an arc between vertices that have the places p and q
--     IsRenumbered ranks one two the arcs of one, between places, are those of two, between vertices
use Rattle.std.specs.Prelude.{◌≡◌, ℕ, ◌+◌, ◌-◌, ◌≤◌, List, ◌∷◌, Option, None, length, map, slice_index}
use Rattle.std.specs.Option.{option_map}
use Rattle.walk_queue.specs.Keys.{key_at}
use Rattle.walk_hierarchy.specs.declared.arcs.UpDown.{UpDown}
use Rattle.walk_hierarchy.specs.declared.labels.Label.{Label}
use Rattle.walk_hierarchy.specs.declared.meeting.Meeting.{Meeting}
use Rattle.walk_hierarchy.specs.declared.settled.Settled.{Settled}

pub record IsAt (ranks : List ℕ) (v : ℕ) : Type 0 where
  pub from_one : 1 ≤ v
  pub to_nodes : v ≤ length ranks

abbrev pub place_of : List ℕ → ℕ → ℕ
place_of ranks v = slice_index ranks (v - 1) + 1

abbrev pub place_arc : List ℕ → UpDown → UpDown
place_arc ranks arc = record {
  from = record { 0 = place_of ranks arc.from.0 };
  to = record { 0 = place_of ranks arc.to.0 };
  seconds = arc.seconds;
  middle = arc.middle;
}

abbrev pub placed : List ℕ → List UpDown → List UpDown
placed ranks arcs = map (place_arc ranks) arcs

pub record HasEnds (ranks : List ℕ) (arc : UpDown) : Type 0 where
  pub from : IsAt ranks arc.from.0
  pub to : IsAt ranks arc.to.0

pub record AreNames (ranks names : List ℕ) : Type 0 where
  pub many : length names ≡ length ranks + 1
  pub each : (v : ℕ) → IsAt ranks v → slice_index names (place_of ranks v) ≡ v

abbrev pub label_name : List ℕ → Label → Label
label_name names x = record { seconds = x.seconds; parent = record { 0 = slice_index names x.parent.0 } }

abbrev pub settled_name : List ℕ → Settled → Settled
settled_name names entry = record { node = record { 0 = slice_index names entry.node.0 }; seconds = entry.seconds }

abbrev pub meeting_name : List ℕ → Meeting → Meeting
meeting_name names m = record { seconds = m.seconds; node = record { 0 = slice_index names m.node.0 } }

-- vertex 0 has none
abbrev pub by_vertex : List ℕ → List ℕ → List (Option Label) → List (Option Label)
by_vertex ranks names labels = None ∷ map (λ rank. option_map (label_name names) (key_at labels (rank + 1))) ranks

pub record IsPlaced (ranks : List ℕ) (way : ℕ → ℕ → ℕ → Type 0) (p q l : ℕ) : Type 0 where
  pub from : ℕ
  pub to : ℕ
  pub leads : way from to l
  pub begins : place_of ranks from ≡ p
  pub ends : place_of ranks to ≡ q

pub record IsRenumbered (ranks : List ℕ) (one two : ℕ → ℕ → ℕ → Type 0) : Type 0 where
  pub there : (p q l : ℕ) → one p q l → IsPlaced ranks two p q l
  pub back : (v w l : ℕ) → two v w l → one (place_of ranks v) (place_of ranks w) l
  pub from : (v w l : ℕ) → two v w l → IsAt ranks v
  pub to : (v w l : ℕ) → two v w l → IsAt ranks w
