-- One list of arcs, and which vertices are left.
--     IsPlace row to at          the place of the arc with this other end, or how many arcs there are
--     PutsIn old new arc         the arc stands, or one that is no longer, and nothing else came
--     left_by rank v, is_last    whether the vertex is left, and that it is
--     KeepsLeft rank old new     the arcs to vertices that are left stay
use Rattle.std.specs.Prelude.{◌≡◌, ◌≢◌, ℕ, ◌<◌, ◌≤◌, ◌⊎◌, ◌==◌, Bool, List, length, Contains, slice_index_or}
use Rattle.walk_laws.specs.declared.CoreArc.{CoreArc}
use Rattle.walk_core.specs.Core.{HasDifferentEnds}

pub record IsPlace (row : List CoreArc) (to at : ℕ) : Type 0 where
  pub within : at ≤ length row
  pub found : at < length row → (d : CoreArc) → (slice_index_or row at d).to.0 ≡ to
  pub none_before : (k : ℕ) (d : CoreArc) → k < at → (slice_index_or row k d).to.0 ≢ to

-- an arc with the same other end that is no longer
pub record HasNoLonger (row : List CoreArc) (arc : CoreArc) : Type 0 where
  pub it : CoreArc
  pub stands : Contains row it
  pub same : it.to.0 ≡ arc.to.0
  pub within : it.seconds ≤ arc.seconds

pub record PutsIn (old new : List CoreArc) (arc : CoreArc) : Type 0 where
  pub only : (x : CoreArc) → Contains new x → Contains old x ⊎ (x ≡ arc)
  pub stays : (x : CoreArc) → Contains old x → HasNoLonger new x
  pub put : HasNoLonger new arc

abbrev pub left_by : List ℕ → ℕ → Bool
left_by rank v = slice_index_or rank v 4294967295 == 4294967295

-- the rank of a vertex that is left
abbrev pub is_last : List ℕ → ℕ → Type 0
is_last rank v = slice_index_or rank v 4294967295 ≡ 4294967295

pub record KeepsLeft (rank : List ℕ) (old new : List CoreArc) : Type 0 where
  pub only : (x : CoreArc) → Contains new x → Contains old x × is_last rank x.to.0
  pub stays : (x : CoreArc) → Contains old x → is_last rank x.to.0 → Contains new x
  pub ends : HasDifferentEnds old → HasDifferentEnds new
