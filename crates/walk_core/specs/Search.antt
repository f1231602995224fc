-- Labels of a search that avoids a vertex.
--     Fits rows count                the lists of so many vertices, with no loop and no arc that is too long
--     Avoids                         an arc between vertices that are left, other than one
--     IsLabel, AllLabels             each label stands for a list of such arcs
use Rattle.std.specs.Prelude.{◌≡◌, ◌≢◌, ℕ, ◌<◌, ◌≤◌, List, length, slice_index_or}
use Rattle.walk_laws.specs.declared.CoreArc.{CoreArc}
use Rattle.walk_laws.specs.Sums.{IsSum, HasArc, longest}
use Rattle.walk_core.specs.declared.search.Label.{Label}
use Rattle.walk_core.specs.Row.{is_last}

-- the vertices are numbered from 1
pub record Fits (rows : List (List CoreArc)) (count : ℕ) : Type 0 where
  pub many : length rows ≡ count
  pub ends : (p q l : ℕ) → HasArc rows p q l → q < count
  pub short : (p q l : ℕ) → HasArc rows p q l → l ≤ longest
  pub apart : (p q l : ℕ) → HasArc rows p q l → p ≢ q
  pub from_one : (p q l : ℕ) → HasArc rows p q l → (1 ≤ p) × (1 ≤ q)

-- an arc between vertices that are left, other than this one
pub record Avoids (out : List (List CoreArc)) (rank : List ℕ) (avoid p q l : ℕ) : Type 0 where
  pub from_left : is_last rank p
  pub to_left : is_last rank q
  pub from_other : p ≢ avoid
  pub to_other : q ≢ avoid
  pub stands : HasArc out p q l

pub record IsLabel (out : List (List CoreArc)) (rank : List ℕ) (avoid from v l : ℕ) : Type 0 where
  pub left : is_last rank v
  pub other : v ≢ avoid
  pub sum : IsSum (Avoids out rank avoid) from v l

-- each label of this run stands for a list of arcs
pub record AllLabels (out : List (List CoreArc)) (rank : List ℕ) (avoid from : ℕ) (labels : List Label) (run : ℕ) : Type 0 where
  pub each : (v : ℕ) (d : Label) → v < length labels → (slice_index_or labels v d).run ≡ run
      → IsLabel out rank avoid from v (slice_index_or labels v d).seconds
