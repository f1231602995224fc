-- Lists of arcs, one for each vertex.
--     row_of rows v              the list of a vertex
--     Puts old new at arc        the list of one vertex gets an arc, or has one that is no longer
--     Cleans old new at rank     the list of one vertex loses the arcs to contracted vertices
use Rattle.std.specs.Prelude.{◌≡◌, ◌≢◌, ℕ, List, [], length, slice_index_or}
use Rattle.walk_laws.specs.declared.CoreArc.{CoreArc}
use Rattle.walk_core.specs.Core.{HasDifferentEnds}
use Rattle.walk_core.specs.Row.{PutsIn, KeepsLeft}

abbrev pub row_of : List (List CoreArc) → ℕ → List CoreArc
row_of rows v = slice_index_or rows v []

-- only the row of this vertex changes
pub record Puts (old new : List (List CoreArc)) (at : ℕ) (arc : CoreArc) : Type 0 where
  pub many : length new ≡ length old
  pub others : (v : ℕ) → v ≢ at → row_of new v ≡ row_of old v
  pub here : PutsIn (row_of old at) (row_of new at) arc
  pub ends : HasDifferentEnds (row_of old at) → HasDifferentEnds (row_of new at)

pub record Cleans (old new : List (List CoreArc)) (at : ℕ) (rank : List ℕ) : Type 0 where
  pub many : length new ≡ length old
  pub others : (v : ℕ) → v ≢ at → row_of new v ≡ row_of old v
  pub here : KeepsLeft rank (row_of old at) (row_of new at)
