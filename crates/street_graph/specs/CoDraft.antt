-- What the lines of coordinates that were read so far gave.
--     cause_at nodes draft line       the cause of the first rule that the line breaks behind those lines
--     points_after, placed_after      the points and marks behind the line
--     HasPlaced nodes draft lines     the draft has what the lines gave
use Rattle.std.specs.Prelude.{◌≡◌, ◌-◌, ◌≤◌, ℕ, Bool, true, false, List, [], ◌∷◌, length, count_by, slice_get, slice_set, slice_index_or, Option, Some, None, if◌then◌else◌}
use Rattle.std.specs.List.{list_any}
use Rattle.move_model.specs.declared.refusal.Cause.{Cause}
use Rattle.move_model.specs.declared.refusal.Cause.TheVariants.{Repeated}
use Rattle.street_graph.specs.declared.co.CoLine.{CoLine}
use Rattle.street_graph.specs.declared.co.CoLine.TheVariants as co_line
use Rattle.street_graph.specs.declared.co.Draft.{Draft}
use Rattle.street_graph.specs.declared.co.Signed.{Signed}
use Rattle.street_graph.specs.declared.point.Point.{Point}
use Rattle.refusals.specs.Refusal.{or_then}
use Rattle.street_graph.specs.Co.{signed_of, int_of, is_size, is_place, is_place_of, co_form_broken, co_size_broken, co_vertex_broken, co_coordinate_broken, IsCoSizeRow}

-- the signed number of the first field, if there is a field and it is such a number
abbrev pub first_signed : List (List ℕ) → Option Signed
first_signed [] = None
first_signed (field ∷ more) = signed_of field

-- the first field is this number, and these are the fields behind it
pub record BeginsWithSigned (all : List (List ℕ)) (value : Signed) (rest : List (List ℕ)) : Type 0 where
  pub field : List ℕ
  pub splits : all ≡ field ∷ rest
  pub value_is : signed_of field ≡ Some value

abbrev pub point_of : Signed → Signed → Point
point_of x y = record { lat = int_of y; lon = int_of x }

-- the vertex is marked as placed
abbrev pub marked_broken : List Bool → ℕ → Option Cause
marked_broken placed id = if slice_index_or placed (id - 1) false then Some Repeated else None

abbrev pub repeated_at : List Bool → CoLine → Option Cause
repeated_at placed (co_line.Place id x y) = marked_broken placed id
repeated_at placed _ = None

unfoldable pub cause_at : ℕ → Bool → List Bool → CoLine → Option Cause
cause_at nodes sized placed line =
    or_then (co_form_broken sized line) (or_then (co_size_broken nodes line)
    (or_then (co_vertex_broken nodes line) (or_then (repeated_at placed line) (co_coordinate_broken line))))

abbrev pub points_after : List Point → CoLine → List Point
points_after points (co_line.Place id x y) = slice_set points (id - 1) (point_of x y)
points_after points _ = points

abbrev pub placed_after : List Bool → CoLine → List Bool
placed_after placed (co_line.Place id x y) = slice_set placed (id - 1) true
placed_after placed _ = placed

-- each line that places a vertex gives its point
abbrev pub ArePlaced : List CoLine → List Point → Type 0
ArePlaced lines points = (id : ℕ) (x y : Signed) (i : ℕ) → slice_get lines i ≡ Some (co_line.Place id x y) → slice_get points (id - 1) ≡ Some (point_of x y)

pub record HasPlaced (nodes : ℕ) (draft : Draft) (lines : List CoLine) : Type 0 where
  pub sized : draft.sized ≡ list_any is_size lines
  pub row : draft.sized ≡ true → IsCoSizeRow lines draft.row
  pub count : draft.count ≡ count_by is_place lines
  pub marked : count_by (λ mark. mark) draft.placed.items ≡ draft.count
  pub one_each : length draft.points.items ≡ nodes
  pub one_mark_each : length draft.placed.items ≡ nodes
  pub marks : (v : ℕ) → 1 ≤ v → v ≤ nodes → slice_index_or draft.placed.items (v - 1) false ≡ list_any (is_place_of v) lines
  pub from_one : (id : ℕ) (x y : Signed) (i : ℕ) → slice_get lines i ≡ Some (co_line.Place id x y) → 1 ≤ id
  pub placed : ArePlaced lines draft.points.items
