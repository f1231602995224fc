-- The text of a street graph in the form `.gr` of the DIMACS shortest path challenge: what its lines say, the rules
-- of a line, the first rule that a text breaks, and the graph that a text gives.
--     gr_lines text                  what each line of the text says
--     size_of lines                  the numbers of vertices and of arcs that the first `p` line among the lines gives
--     arcs_of lines                  the arcs that the lines give, in their order
--     gr_rules                       the rules of a line, in their order
--     IsGrGraph text g               the text breaks no rule, and g is its graph
--     IsGrRefused text row cause     the first broken rule has this row, or row 0 for the whole text, and this cause
use Rattle.std.specs.Prelude.{◌≡◌, ◌≢◌, ◌+◌, ◌&&◌, ℕ, Bool, List, [], ◌∷◌, length, take, map, slice_get, slice_index, slice_index_or, Option, Some, None, codes, nat_le, ◌==◌, if◌then◌else◌}
use Rattle.std.specs.List.{flat_map}
use Rattle.std.specs.Str.{bytes_eq}
use Rattle.std.specs.Str.Lines.{lines}
use Rattle.move_model.specs.declared.network.Arc.{Arc}
use Rattle.move_model.specs.declared.refusal.Cause.{Cause}
use Rattle.move_model.specs.declared.refusal.Cause.TheVariants.{Limit, Line, Vertex, Weight, Count}
use Rattle.move_model.specs.Streets.{Streets}
use Rattle.street_graph.specs.declared.gr.GrLine.{GrLine}
use Rattle.street_graph.specs.declared.gr.GrLine.TheVariants as gr_line
use Rattle.street_graph.specs.declared.gr.Size.{Size}
use Rattle.street_graph.specs.Text.{fields, number_of}
use Rattle.refusals.specs.Refusal.{Accepted, IsFirstRefusal}

abbrev pub problem_by : Option ℕ → Option ℕ → GrLine
problem_by (Some n) (Some m) = gr_line.Problem n m
problem_by _ _ = gr_line.Faulty

-- `sp N M`
unfoldable pub problem_line : List (List ℕ) → GrLine
problem_line (kind ∷ n ∷ m ∷ []) = if bytes_eq kind (codes "sp") then problem_by (number_of n) (number_of m) else gr_line.Faulty
problem_line _ = gr_line.Faulty

abbrev pub arc_by : Option ℕ → Option ℕ → Option ℕ → GrLine
arc_by (Some u) (Some v) (Some w) = gr_line.Arc u v w
arc_by _ _ _ = gr_line.Faulty

-- `U V W`
unfoldable pub arc_line : List (List ℕ) → GrLine
arc_line (u ∷ v ∷ w ∷ []) = arc_by (number_of u) (number_of v) (number_of w)
arc_line _ = gr_line.Faulty

-- what a line says, by its fields: a line without fields, or whose first byte is `c`, is passed over
unfoldable pub gr_line_of : List (List ℕ) → GrLine
gr_line_of [] = gr_line.Skipped
gr_line_of (word ∷ more) =
    if slice_index word 0 == 99 then gr_line.Skipped
    else if bytes_eq word (codes "p") then problem_line more
    else if bytes_eq word (codes "a") then arc_line more
    else gr_line.Faulty

unfoldable pub gr_lines : List ℕ → List GrLine
gr_lines text = map (λ line. gr_line_of (fields line)) (lines text)

-- the size, if the line is a `p` line
abbrev pub size_in : GrLine → Option Size
size_in (gr_line.Problem n m) = Some (record { nodes = n; arcs = m })
size_in _ = None

abbrev pub first_some : {X : Type 0} → Option X → Option X → Option X
first_some None later = later
first_some (Some x) later = Some x

abbrev pub size_of : List GrLine → Option Size
size_of [] = None
size_of (line ∷ more) = first_some (size_in line) (size_of more)

-- the arc, if the line is an `a` line
abbrev pub arcs_in : GrLine → List Arc
arcs_in (gr_line.Arc u v w) = record { from = record { 0 = u }; to = record { 0 = v }; seconds = w } ∷ []
arcs_in _ = []

abbrev pub arcs_of : List GrLine → List Arc
arcs_of lines = flat_map arcs_in lines

-- a line, and the size that the lines before it gave
pub record Spot : Type 0 where
  pub given : Option Size
  pub line : GrLine

-- the line at a place, from 0
abbrev pub spot_at : List GrLine → ℕ → Spot
spot_at lines i = record { given = size_of (take i lines); line = slice_index_or lines i gr_line.Skipped }

-- the greatest numbers of vertices, of arcs and of seconds
abbrev pub max_nodes : ℕ
max_nodes = 2000000

abbrev pub max_arcs : ℕ
max_arcs = 8000000

abbrev pub max_seconds : ℕ
max_seconds = 1000000

abbrev pub is_within : ℕ → ℕ → ℕ → Bool
is_within low high n = nat_le low n && nat_le n high

-- a line has one of the two forms; there is one `p` line, and it stands before every `a` line
unfoldable pub form_broken : Option Size → GrLine → Option Cause
form_broken given gr_line.Skipped = None
form_broken given gr_line.Faulty = Some Line
form_broken None (gr_line.Problem n m) = None
form_broken (Some size) (gr_line.Problem n m) = Some Line
form_broken None (gr_line.Arc u v w) = Some Line
form_broken (Some size) (gr_line.Arc u v w) = None

-- there is at least one vertex, and not too many
unfoldable pub nodes_broken : GrLine → Option Cause
nodes_broken (gr_line.Problem n m) = if is_within 1 max_nodes n then None else Some (Limit n)
nodes_broken _ = None

-- there are not too many arcs
unfoldable pub arcs_broken : GrLine → Option Cause
arcs_broken (gr_line.Problem n m) = if is_within 0 max_arcs m then None else Some (Limit m)
arcs_broken _ = None

-- a number is that of a vertex
unfoldable pub vertex_broken : ℕ → ℕ → Option Cause
vertex_broken nodes v = if is_within 1 nodes v then None else Some (Vertex v)

-- an arc leaves a vertex
unfoldable pub from_broken : Option Size → GrLine → Option Cause
from_broken (Some size) (gr_line.Arc u v w) = vertex_broken size.nodes u
from_broken _ _ = None

-- an arc ends at a vertex
unfoldable pub to_broken : Option Size → GrLine → Option Cause
to_broken (Some size) (gr_line.Arc u v w) = vertex_broken size.nodes v
to_broken _ _ = None

-- an arc's seconds are not too many
unfoldable pub seconds_broken : GrLine → Option Cause
seconds_broken (gr_line.Arc u v w) = if is_within 0 max_seconds w then None else Some (Weight w)
seconds_broken _ = None

-- the rules of a line, in their order
unfoldable pub gr_rules : List (Spot → Option Cause)
gr_rules =
    (λ spot. form_broken spot.given spot.line)
    ∷ (λ spot. nodes_broken spot.line)
    ∷ (λ spot. arcs_broken spot.line)
    ∷ (λ spot. from_broken spot.given spot.line)
    ∷ (λ spot. to_broken spot.given spot.line)
    ∷ (λ spot. seconds_broken spot.line)
    ∷ []

abbrev pub LinesHold : List GrLine → Type 0
LinesHold lines = Accepted gr_rules (spot_at lines) (length lines)

-- every line keeps the rules, and these are the vertices and arcs, as many as the `p` line says
pub record IsGrGraph (text : List ℕ) (g : Streets) : Type 0 where
  pub hold : LinesHold (gr_lines text)
  pub size : size_of (gr_lines text) ≡ Some (record { nodes = g.nodes; arcs = length g.arcs })
  pub arcs : g.arcs ≡ arcs_of (gr_lines text)

-- the line of this row is the `p` line of these numbers
pub record IsSizeRow (lines : List GrLine) (row : ℕ) (size : Size) : Type 0 where
  pub place : ℕ
  pub number : row ≡ place + 1
  pub announced : slice_get lines place ≡ Some (gr_line.Problem size.nodes size.arcs)

-- the first broken rule of a text: that of a line; or, behind all lines, that there is no `p` line, or that the
-- number of arcs is not that of the `p` line
pub data IsGrRefused (text : List ℕ) : ℕ → Cause → Type 0 where
  by_line : {row : ℕ} {cause : Cause} → IsFirstRefusal gr_rules (spot_at (gr_lines text)) (length (gr_lines text)) row cause
      → IsGrRefused text row cause
  no_size : LinesHold (gr_lines text) → size_of (gr_lines text) ≡ None → IsGrRefused text 0 Line
  miscounted : {row : ℕ} {size : Size} → LinesHold (gr_lines text) → size_of (gr_lines text) ≡ Some size → IsSizeRow (gr_lines text) row size
      → length (arcs_of (gr_lines text)) ≢ size.arcs → IsGrRefused text row (Count (length (arcs_of (gr_lines text))))
