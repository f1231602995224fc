-- What the lines that were read so far gave.
--     HasRead draft lines     the draft has the size, its row and the arcs of the lines
use Rattle.std.specs.Prelude.{◌≡◌, List, Some}
use Rattle.street_graph.specs.declared.gr.Draft.{Draft}
use Rattle.street_graph.specs.declared.gr.Size.{Size}
use Rattle.street_graph.specs.declared.gr.GrLine.{GrLine}
use Rattle.street_graph.specs.Gr.{size_of, arcs_of, IsSizeRow}

pub record HasRead (draft : Draft) (lines : List GrLine) : Type 0 where
  pub size : draft.size ≡ size_of lines
  pub row : (size : Size) → draft.size ≡ Some size → IsSizeRow lines draft.row size
  pub arcs : draft.arcs ≡ arcs_of lines
