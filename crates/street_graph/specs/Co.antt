-- The text of coordinates in the form `.co` of the DIMACS shortest path challenge: what its lines say, the rules of a
-- line, the first rule that a text breaks, and the points that a text gives.
--     co_lines text                        what each line of the text says
--     co_rules nodes                       the rules of a line, in their order
--     IsPlaced lines points v              a line places vertex v, and the points have it there
--     AreCoPoints nodes text points        the text breaks no rule, and these are the points of the vertices from 1
--     IsCoRefused nodes text row cause     the first broken rule has this row, or row 0 for the whole text, and this cause
use Rattle.std.specs.Prelude.{◌≡◌, ◌≢◌, ◌+◌, ◌-◌, ◌≤◌, ◌&&◌, ◌==◌, ℕ, ℤ, pos, neg_ℤ, Bool, true, false, List, [], ◌∷◌, length, take, drop, map, count_by, slice_get, slice_index, slice_index_or, Option, Some, None, codes, nat_le, if◌then◌else◌}
use Rattle.std.specs.List.{list_any}
use Rattle.std.specs.Str.{bytes_eq}
use Rattle.std.specs.Str.Lines.{lines}
use Rattle.move_model.specs.declared.refusal.Cause.{Cause}
use Rattle.move_model.specs.declared.refusal.Cause.TheVariants.{Line, Count, Repeated, Coordinate}
use Rattle.street_graph.specs.declared.co.CoLine.{CoLine}
use Rattle.street_graph.specs.declared.co.CoLine.TheVariants as co_line
use Rattle.street_graph.specs.declared.co.Signed.{Signed}
use Rattle.street_graph.specs.declared.point.Point.{Point}
use Rattle.street_graph.specs.Text.{fields, number_of}
use Rattle.street_graph.specs.Gr.{vertex_broken}
use Rattle.refusals.specs.Refusal.{Accepted, IsFirstRefusal}

abbrev pub signed_by : Bool → Option ℕ → Option Signed
signed_by negative None = None
signed_by negative (Some size) = Some (record { negative = negative; size = size })

-- a number, behind a minus sign or not
unfoldable pub signed_of : List ℕ → Option Signed
signed_of field = if slice_index field 0 == 45 then signed_by true (number_of (drop 1 field)) else signed_by false (number_of field)

abbrev pub size_by : Option ℕ → CoLine
size_by None = co_line.Faulty
size_by (Some n) = co_line.Size n

-- `aux sp co N`
unfoldable pub size_line : List (List ℕ) → CoLine
size_line (aux ∷ sp ∷ co ∷ n ∷ []) =
    if bytes_eq aux (codes "aux") && (bytes_eq sp (codes "sp") && bytes_eq co (codes "co")) then size_by (number_of n) else co_line.Faulty
size_line _ = co_line.Faulty

abbrev pub place_by : Option ℕ → Option Signed → Option Signed → CoLine
place_by (Some id) (Some x) (Some y) = co_line.Place id x y
place_by _ _ _ = co_line.Faulty

-- `ID X Y`
unfoldable pub place_line : List (List ℕ) → CoLine
place_line (id ∷ x ∷ y ∷ []) = place_by (number_of id) (signed_of x) (signed_of y)
place_line _ = co_line.Faulty

-- what a line says, by its fields: a line without fields, or whose first byte is `c`, is passed over
unfoldable pub co_line_of : List (List ℕ) → CoLine
co_line_of [] = co_line.Skipped
co_line_of (word ∷ more) =
    if slice_index word 0 == 99 then co_line.Skipped
    else if bytes_eq word (codes "p") then size_line more
    else if bytes_eq word (codes "v") then place_line more
    else co_line.Faulty

unfoldable pub co_lines : List ℕ → List CoLine
co_lines text = map (λ line. co_line_of (fields line)) (lines text)

-- the line is a `p` line
abbrev pub is_size : CoLine → Bool
is_size (co_line.Size n) = true
is_size _ = false

-- the line is a `v` line
abbrev pub is_place : CoLine → Bool
is_place (co_line.Place id x y) = true
is_place _ = false

-- the line is a `v` line of this vertex
abbrev pub is_place_of : ℕ → CoLine → Bool
is_place_of v (co_line.Place id x y) = id == v
is_place_of v _ = false

-- a line, and the lines before it
pub record CoSpot : Type 0 where
  pub before : List CoLine
  pub line : CoLine

-- the line at a place, from 0
abbrev pub co_spot_at : List CoLine → ℕ → CoSpot
co_spot_at lines i = record { before = take i lines; line = slice_index_or lines i co_line.Skipped }

-- a line has one of the two forms; there is one `p` line, and it stands before every `v` line
unfoldable pub co_form_broken : Bool → CoLine → Option Cause
co_form_broken sized co_line.Skipped = None
co_form_broken sized co_line.Faulty = Some Line
co_form_broken sized (co_line.Size n) = if sized then Some Line else None
co_form_broken sized (co_line.Place id x y) = if sized then None else Some Line

-- there are as many vertices as the graph has
unfoldable pub co_size_broken : ℕ → CoLine → Option Cause
co_size_broken nodes (co_line.Size n) = if n == nodes then None else Some (Count n)
co_size_broken nodes _ = None

-- the number is that of a vertex
unfoldable pub co_vertex_broken : ℕ → CoLine → Option Cause
co_vertex_broken nodes (co_line.Place id x y) = vertex_broken nodes id
co_vertex_broken nodes _ = None

-- no earlier line places the vertex
unfoldable pub co_repeated_broken : List CoLine → CoLine → Option Cause
co_repeated_broken before (co_line.Place id x y) = if list_any (is_place_of id) before then Some Repeated else None
co_repeated_broken before _ = None

-- the longitude is from -180 to 180 degrees, and the latitude from -90 to 90, in millionths
unfoldable pub coordinate_broken : Signed → Signed → Option Cause
coordinate_broken x y = if nat_le x.size 180000000 && nat_le y.size 90000000 then None else Some Coordinate

-- a vertex is placed within them
unfoldable pub co_coordinate_broken : CoLine → Option Cause
co_coordinate_broken (co_line.Place id x y) = coordinate_broken x y
co_coordinate_broken _ = None

-- the rules of a line, in their order
unfoldable pub co_rules : ℕ → List (CoSpot → Option Cause)
co_rules nodes =
    (λ spot. co_form_broken (list_any is_size spot.before) spot.line)
    ∷ (λ spot. co_size_broken nodes spot.line)
    ∷ (λ spot. co_vertex_broken nodes spot.line)
    ∷ (λ spot. co_repeated_broken spot.before spot.line)
    ∷ (λ spot. co_coordinate_broken spot.line)
    ∷ []

abbrev pub CoLinesHold : ℕ → List CoLine → Type 0
CoLinesHold nodes lines = Accepted (co_rules nodes) (co_spot_at lines) (length lines)

abbrev pub int_of : Signed → ℤ
int_of signed = if signed.negative then neg_ℤ (pos signed.size) else pos signed.size

-- a line places the vertex, and these points have its coordinates there
pub record IsPlaced (lines : List CoLine) (points : List Point) (v : ℕ) : Type 0 where
  pub place : ℕ
  pub x : Signed
  pub y : Signed
  pub line : slice_get lines place ≡ Some (co_line.Place v x y)
  pub point : slice_get points (v - 1) ≡ Some (record { lat = int_of y; lon = int_of x })

-- every line keeps the rules, there is a `p` line, as many lines place a vertex as there are vertices, and the points
-- are those at which the lines place the vertices
pub record AreCoPoints (nodes : ℕ) (text : List ℕ) (points : List Point) : Type 0 where
  pub hold : CoLinesHold nodes (co_lines text)
  pub sized : list_any is_size (co_lines text) ≡ true
  pub counted : count_by is_place (co_lines text) ≡ nodes
  pub one_each : length points ≡ nodes
  pub placed : (v : ℕ) → 1 ≤ v → v ≤ nodes → IsPlaced (co_lines text) points v

-- the line of this row is the `p` line
pub record IsCoSizeRow (lines : List CoLine) (row : ℕ) : Type 0 where
  pub place : ℕ
  pub size : ℕ
  pub number : row ≡ place + 1
  pub announced : slice_get lines place ≡ Some (co_line.Size size)

-- the first broken rule of a text: that of a line; or, behind all lines, that there is no `p` line, or that not
-- every vertex is placed
pub data IsCoRefused (nodes : ℕ) (text : List ℕ) : ℕ → Cause → Type 0 where
  by_line : {row : ℕ} {cause : Cause} → IsFirstRefusal (co_rules nodes) (co_spot_at (co_lines text)) (length (co_lines text)) row cause
      → IsCoRefused nodes text row cause
  no_size : CoLinesHold nodes (co_lines text) → list_any is_size (co_lines text) ≡ false → IsCoRefused nodes text 0 Line
  miscounted : {row : ℕ} → CoLinesHold nodes (co_lines text) → IsCoSizeRow (co_lines text) row
      → count_by is_place (co_lines text) ≢ nodes → IsCoRefused nodes text row (Count (count_by is_place (co_lines text)))
