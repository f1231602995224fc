-- What the lines of coordinates so far gave, one line on, and what follows behind the last line.
use Rattle.std.proofs.Common.{◌≡◌, ◌≢◌, ◌∙◌, ◌+◌, ◌-◌, ◌<◌, ◌≤◌, ℕ, Bool, true, false, cond, List, [], ◌∷◌, ◌++◌, length, take, get_or, set, map, Option, Some, None, Err, replicate, pos, refl, sym, ap, inl, inr, arith}
use Rattle.std.specs.Prelude.{◌==◌, ◌&&◌, ◌||◌, nat_le, slice_get, count_by, if◌then◌else◌}
use Rattle.std.specs.List.{list_any, Any}
use Rattle.std.specs.Str.Lines.{lines}
use Rattle.std.proofs.lemmas.List.{nil_from_length, length-set, get_or-set_same, get_or-set_other, get_or-replicate, length-replicate}
use Rattle.std.proofs.lemmas.List.Sums.{sum_by_push, sum_by-set, count_by-le-length}
use Rattle.std.proofs.lemmas.List.Folds.{list_any-append, list_any_at, Any-from_list_any, sum_by-replicate}
use Rattle.std.proofs.lemmas.Option.{slice_get-get_or, slice_get_within, get_or_from_slice_get}
use Rattle.std.proofs.lemmas.Bool.Decides.{nat_tests}
use Rattle.move_model.specs.declared.refusal.Cause.{Cause}
use Rattle.move_model.specs.declared.refusal.Cause.TheVariants.{Line, Count, Repeated}
use Rattle.move_model.specs.declared.refusal.FileKind.TheVariants.{Co}
use Rattle.move_model.specs.declared.refusal.Refusal.{Refusal}
use Rattle.move_model.specs.declared.refusal.Stopped.{Stopped}
use Rattle.move_model.specs.declared.refusal.Stopped.TheVariants.{Refused, NoMemory}
use Rattle.street_graph.specs.declared.co.CoLine.{CoLine}
use Rattle.street_graph.specs.declared.co.CoLine.TheVariants.{Skipped, Size, Place, Faulty}
use Rattle.street_graph.specs.declared.co.Signed.{Signed}
use Rattle.street_graph.specs.declared.co.Draft.{Draft}
use Rattle.street_graph.specs.declared.point.Point.{Point}
use Rattle.street_graph.specs.Text.{fields}
use Rattle.refusals.specs.Refusal.{IsFirstRefusal, first_cause, or_then}
use Rattle.street_graph.specs.Refused.{IfRefused}
use Rattle.street_graph.specs.Gr.{vertex_broken}
use Rattle.street_graph.specs.Co.{co_lines, co_line_of, co_rules, co_form_broken, co_size_broken, co_vertex_broken, co_repeated_broken, co_coordinate_broken, co_spot_at, is_size, is_place, is_place_of, IsPlaced, AreCoPoints, IsCoSizeRow, CoLinesHold, IsCoRefused, by_line, no_size, miscounted}
use Rattle.street_graph.specs.CoDraft.{cause_at, marked_broken, point_of, points_after, placed_after, ArePlaced, HasPlaced}
use Rattle.street_graph.proofs.LineLemmas.{slice_get-push, slice_get_last, slice_get_back}

-- the lines of a text are what its first line says and the lines behind
pub co_lines_first : (text line rest : List ℕ) → lines text ≡ line ∷ lines rest → co_lines text ≡ co_line_of (fields line) ∷ co_lines rest
unfolding co_lines
co_lines_first text line rest e = ap (map (λ l. co_line_of (fields l))) e

co_lines-nil : co_lines [] ≡ []
unfolding co_lines
co_lines-nil = refl

-- no text, no line
pub co_lines-empty : (rest : List ℕ) → (length rest == 0) ≡ true → co_lines rest ≡ []
co_lines-empty rest none =
    let empty : length rest ≡ 0 = grind (arith, nat_tests) in
    ap co_lines (nil_from_length rest empty) ∙ co_lines-nil

or_then-none : {C : Type 0} (cause : Option C) → or_then cause None ≡ cause
or_then-none None = refl
or_then-none (Some c) = refl

within-of : (low high n : ℕ) (cause : Cause) → (if nat_le low n && nat_le n high then None else Some cause) ≡ None → (low ≤ n) × (n ≤ high)
within-of low high n cause e = grind (arith, nat_tests)

-- a number that is that of a vertex
vertex-of : (nodes id : ℕ) (x y : Signed) → co_vertex_broken nodes (Place id x y) ≡ None → (1 ≤ id) × (id ≤ nodes)
unfolding co_vertex_broken vertex_broken
vertex-of nodes id x y e = within-of 1 nodes id _ e

marked-of : (nodes : ℕ) (lines : List CoLine) (placed : List Bool) (id : ℕ) (x y : Signed) (later : Option Cause) (vertex : Option Cause)
    → co_vertex_broken nodes (Place id x y) ≡ vertex
    → ((v : ℕ) → 1 ≤ v → v ≤ nodes → get_or placed (v - 1) false ≡ list_any (is_place_of v) lines)
    → or_then vertex (or_then (if list_any (is_place_of id) lines then Some Repeated else None) later)
    ≡ or_then vertex (or_then (marked_broken placed id) later)
marked-of nodes lines placed id x y later (Some c) e marks = refl
marked-of nodes lines placed id x y later None e marks =
    let in_graph = vertex-of nodes id x y e in
    let mark : get_or placed (id - 1) false ≡ list_any (is_place_of id) lines = marks id in_graph.0 in_graph.1 in
    rw mark refl

place-cause : (nodes : ℕ) (lines : List CoLine) (sized : Bool) (placed : List Bool) (id : ℕ) (x y : Signed)
    → sized ≡ list_any is_size lines
    → ((v : ℕ) → 1 ≤ v → v ≤ nodes → get_or placed (v - 1) false ≡ list_any (is_place_of v) lines)
    → first_cause (co_rules nodes) (record { before = lines; line = Place id x y }) ≡ cause_at nodes sized placed (Place id x y)
unfolding co_rules cause_at co_size_broken co_repeated_broken
place-cause nodes lines sized placed id x y size marks =
    rw (← size, or_then-none (co_coordinate_broken (Place id x y)))
    (ap (or_then (co_form_broken sized (Place id x y)))
    (marked-of nodes lines placed id x y (co_coordinate_broken (Place id x y)) (co_vertex_broken nodes (Place id x y)) refl marks))

size-cause : (nodes : ℕ) (lines : List CoLine) (sized : Bool) (placed : List Bool) (n : ℕ) → sized ≡ list_any is_size lines
    → first_cause (co_rules nodes) (record { before = lines; line = Size n }) ≡ cause_at nodes sized placed (Size n)
unfolding co_rules cause_at co_vertex_broken co_repeated_broken co_coordinate_broken
size-cause nodes lines sized placed n size = rw (← size) refl

skipped-cause : (nodes : ℕ) (lines : List CoLine) (sized : Bool) (placed : List Bool)
    → first_cause (co_rules nodes) (record { before = lines; line = Skipped }) ≡ cause_at nodes sized placed Skipped
unfolding co_rules cause_at co_form_broken co_size_broken co_vertex_broken co_repeated_broken co_coordinate_broken
skipped-cause nodes lines sized placed = refl

faulty-cause : (nodes : ℕ) (lines : List CoLine) (sized : Bool) (placed : List Bool)
    → first_cause (co_rules nodes) (record { before = lines; line = Faulty }) ≡ cause_at nodes sized placed Faulty
unfolding co_rules cause_at co_form_broken
faulty-cause nodes lines sized placed = refl

-- the draft knows the first rule that the next line breaks
pub cause_is : (nodes : ℕ) (lines : List CoLine) (draft : Draft) (line : CoLine) → HasPlaced nodes draft lines
    → first_cause (co_rules nodes) (record { before = lines; line = line }) ≡ cause_at nodes draft.sized draft.placed.items line
cause_is nodes lines draft Skipped h = skipped-cause nodes lines draft.sized draft.placed.items
cause_is nodes lines draft Faulty h = faulty-cause nodes lines draft.sized draft.placed.items
cause_is nodes lines draft (Size n) h = size-cause nodes lines draft.sized draft.placed.items n h.sized
cause_is nodes lines draft (Place id x y) h = place-cause nodes lines draft.sized draft.placed.items id x y h.sized h.marks

-- a line that breaks no rule, as the draft tests it
pub cause_skipped : (nodes : ℕ) (sized : Bool) (placed : List Bool) (line : CoLine) → line ≡ Skipped → cause_at nodes sized placed line ≡ None
unfolding cause_at co_form_broken co_size_broken co_vertex_broken co_coordinate_broken
cause_skipped nodes sized placed line e = rw e refl

pub cause_size : (nodes : ℕ) (sized : Bool) (placed : List Bool) (line : CoLine) (n : ℕ) → line ≡ Size n → sized ≡ false → n ≡ nodes
    → cause_at nodes sized placed line ≡ None
unfolding cause_at co_form_broken co_size_broken co_vertex_broken co_coordinate_broken
cause_size nodes sized placed line n e first same =
    let eq : (n == nodes) ≡ true = grind (arith, nat_tests) in
    rw (e, first, eq) refl

or-false : (b : Bool) → (b || false) ≡ b
or-false true = refl
or-false false = refl

or-true : (b : Bool) → (b || true) ≡ true
or-true true = refl
or-true false = refl

list_any-push : (p : CoLine → Bool) (lines : List CoLine) (line : CoLine) → list_any p (lines ++ line ∷ []) ≡ (list_any p lines || p line)
list_any-push p lines line = list_any-append p lines (line ∷ []) ∙ ap (λ b. list_any p lines || b) (or-false (p line))

place-mark : (placed : List Bool) (id : ℕ) (later : Option Cause) (mark : Bool) → get_or placed (id - 1) false ≡ mark
    → or_then (if mark then Some Repeated else None) later ≡ None → get_or placed (id - 1) false ≡ false
place-mark placed id later false is e = is
place-mark placed id later true is e = cc

place-parts : (nodes : ℕ) (placed : List Bool) (id : ℕ) (x y : Signed) (form later vertex : Option Cause) → co_vertex_broken nodes (Place id x y) ≡ vertex
    → or_then form (or_then vertex (or_then (marked_broken placed id) later)) ≡ None
    → (1 ≤ id) × (id ≤ nodes) × (get_or placed (id - 1) false ≡ false)
place-parts nodes placed id x y (Some c) later vertex is e = cc
place-parts nodes placed id x y None later (Some c) is e = cc
place-parts nodes placed id x y None later None is e =
    let in_graph = vertex-of nodes id x y is in
    (in_graph.0, in_graph.1, place-mark placed id later (get_or placed (id - 1) false) refl e)

-- the place of a line that breaks no rule
place-of : (nodes : ℕ) (sized : Bool) (placed : List Bool) (id : ℕ) (x y : Signed) → cause_at nodes sized placed (Place id x y) ≡ None
    → (1 ≤ id) × (id ≤ nodes) × (get_or placed (id - 1) false ≡ false)
unfolding cause_at co_size_broken
place-of nodes sized placed id x y e =
    place-parts nodes placed id x y (co_form_broken sized (Place id x y)) (co_coordinate_broken (Place id x y)) (co_vertex_broken nodes (Place id x y)) refl e

set-mark : (placed : List Bool) (nodes id v : ℕ) → length placed ≡ nodes → 1 ≤ id → id ≤ nodes → 1 ≤ v → (same : Bool) → (id == v) ≡ same
    → get_or (set placed (id - 1) true) (v - 1) false ≡ (get_or placed (v - 1) false || same)
set-mark placed nodes id v len one le from true e =
    let eq : id ≡ v = grind (arith, nat_tests) in
    let within : id - 1 < length placed = omega arith in
    rw (or-true (get_or placed (v - 1) false), ← eq) (get_or-set_same placed (id - 1) true false within)
set-mark placed nodes id v len one le from false e =
    let ne : id ≢ v = grind (arith, nat_tests) in
    let other : v - 1 ≢ id - 1 = omega arith in
    rw (or-false (get_or placed (v - 1) false)) (get_or-set_other placed (id - 1) (v - 1) true false other)

-- the marks, one line on
marks_more : (nodes : ℕ) (lines : List CoLine) (placed : List Bool) (line : CoLine) → length placed ≡ nodes
    → ((id : ℕ) (x y : Signed) → line ≡ Place id x y → (1 ≤ id) × (id ≤ nodes))
    → ((v : ℕ) → 1 ≤ v → v ≤ nodes → get_or placed (v - 1) false ≡ list_any (is_place_of v) lines)
    → (v : ℕ) → 1 ≤ v → v ≤ nodes → get_or (placed_after placed line) (v - 1) false ≡ list_any (is_place_of v) (lines ++ line ∷ [])
marks_more nodes lines placed Skipped len ids marks v from to =
    marks v from to ∙ sym (list_any-push (is_place_of v) lines Skipped ∙ or-false (list_any (is_place_of v) lines))
marks_more nodes lines placed Faulty len ids marks v from to =
    marks v from to ∙ sym (list_any-push (is_place_of v) lines Faulty ∙ or-false (list_any (is_place_of v) lines))
marks_more nodes lines placed (Size n) len ids marks v from to =
    marks v from to ∙ sym (list_any-push (is_place_of v) lines (Size n) ∙ or-false (list_any (is_place_of v) lines))
marks_more nodes lines placed (Place id x y) len ids marks v from to =
    let in_graph = ids id x y refl in
    set-mark placed nodes id v len in_graph.0 in_graph.1 from (id == v) refl
    ∙ ap (λ b. b || (id == v)) (marks v from to) ∙ sym (list_any-push (is_place_of v) lines (Place id x y))

kept : (lines : List CoLine) (line : CoLine) (row : ℕ) → IsCoSizeRow lines row → IsCoSizeRow (lines ++ line ∷ []) row
kept lines line row r = record { place = r.place; size = r.size; number = r.number; announced = slice_get-push lines line (Size r.size) r.place r.announced }

-- the row of the size, one line on
row_more : (lines : List CoLine) (line : CoLine) (sized : Bool) (row old new : ℕ) → row ≡ length lines + 1
    → new ≡ (if is_size line then row else old) → (sized ≡ true → IsCoSizeRow lines old) → (sized || is_size line) ≡ true
    → IsCoSizeRow (lines ++ line ∷ []) new
row_more lines (Size n) sized row old new number is before e =
    record { place = length lines; size = n; number = is ∙ number; announced = slice_get_last lines (Size n) }
row_more lines Skipped sized row old new number is before e = rw is (kept lines Skipped old (before (sym (or-false sized) ∙ e)))
row_more lines Faulty sized row old new number is before e = rw is (kept lines Faulty old (before (sym (or-false sized) ∙ e)))
row_more lines (Place id x y) sized row old new number is before e = rw is (kept lines (Place id x y) old (before (sym (or-false sized) ∙ e)))

get-set_same : (points : List Point) (i : ℕ) (p : Point) → i < length points → slice_get (set points i p) i ≡ Some p
get-set_same points i p lt =
    let within : i < length (set points i p) = omega (arith, length-set points i p) in
    slice_get-get_or (set points i p) i p within ∙ ap (λ q. Some q) (get_or-set_same points i p p lt)

get-set_other : (points : List Point) (i j : ℕ) (p q : Point) → j ≢ i → slice_get points j ≡ Some q → slice_get (set points i p) j ≡ Some q
get-set_other points i j p q ne e =
    let within : j < length points = slice_get_within points j q e in
    let more : j < length (set points i p) = omega (arith, length-set points i p) in
    slice_get-get_or (set points i p) j p more ∙ ap (λ r. Some r) (get_or-set_other points i j p p ne ∙ get_or_from_slice_get points j q p e)

-- a vertex that a line places is marked
marked-by : (lines : List CoLine) (id : ℕ) (x y : Signed) (i : ℕ) → slice_get lines i ≡ Some (Place id x y) → list_any (is_place_of id) lines ≡ true
marked-by lines id x y i e =
    let same : (id == id) ≡ true = grind (arith, nat_tests) in
    let line : get_or lines i Skipped ≡ Place id x y = get_or_from_slice_get lines i (Place id x y) Skipped e in
    list_any_at (is_place_of id) lines i Skipped (slice_get_within lines i (Place id x y) e) (rw line same)

from_one_more : (lines : List CoLine) (line : CoLine) → ((id : ℕ) (x y : Signed) (i : ℕ) → slice_get lines i ≡ Some (Place id x y) → 1 ≤ id)
    → ((id : ℕ) (x y : Signed) → line ≡ Place id x y → 1 ≤ id)
    → (id : ℕ) (x y : Signed) (i : ℕ) → slice_get (lines ++ line ∷ []) i ≡ Some (Place id x y) → 1 ≤ id
from_one_more lines line before here id x y i e =
    elim (slice_get_back lines line (Place id x y) i e) [ inl old ↦ before id x y i old | inr new ↦ here id x y new ]

-- a line that places no vertex leaves the points
stay : (lines : List CoLine) (line : CoLine) (points : List Point) → ArePlaced lines points → ((id : ℕ) (x y : Signed) → line ≡ Place id x y → ⊥)
    → ArePlaced (lines ++ line ∷ []) points
stay lines line points before places_none id x y i e =
    elim (slice_get_back lines line (Place id x y) i e) [ inl old ↦ before id x y i old | inr new ↦ absurd (places_none id x y new) ]

-- a line that places a vertex gives its point
put : (nodes : ℕ) (lines : List CoLine) (points : List Point) (id : ℕ) (x y : Signed) → length points ≡ nodes → 1 ≤ id → id ≤ nodes
    → list_any (is_place_of id) lines ≡ false → ((v : ℕ) (a b : Signed) (i : ℕ) → slice_get lines i ≡ Some (Place v a b) → 1 ≤ v)
    → ArePlaced lines points → ArePlaced (lines ++ Place id x y ∷ []) (set points (id - 1) (point_of x y))
put nodes lines points id x y len from to none ones before v a b i e =
    elim (slice_get_back lines (Place id x y) (Place v a b) i e) [
      | inl old ↦
          let other : v ≢ id = λ same. let marked = rw same at (marked-by lines v a b i old) in cc in
          let one : 1 ≤ v = ones v a b i old in
          let apart : v - 1 ≢ id - 1 = λ same. other (omega arith) in
          get-set_other points (id - 1) (v - 1) (point_of x y) (point_of a b) apart (before v a b i old)
      | inr new ↦
          let ids : id ≡ v = cc in
          let xs : x ≡ a = cc in
          let ys : y ≡ b = cc in
          let within : id - 1 < length points = omega arith in
          rw (← ids, ← xs, ← ys) (get-set_same points (id - 1) (point_of x y) within)
    ]

placed_more : (nodes : ℕ) (lines : List CoLine) (points : List Point) (line : CoLine) → length points ≡ nodes
    → ((id : ℕ) (x y : Signed) → line ≡ Place id x y → (1 ≤ id) × (id ≤ nodes) × (list_any (is_place_of id) lines ≡ false))
    → ((v : ℕ) (a b : Signed) (i : ℕ) → slice_get lines i ≡ Some (Place v a b) → 1 ≤ v)
    → ArePlaced lines points → ArePlaced (lines ++ line ∷ []) (points_after points line)
placed_more nodes lines points Skipped len ids ones before = stay lines Skipped points before (λ id x y e. cc)
placed_more nodes lines points Faulty len ids ones before = stay lines Faulty points before (λ id x y e. cc)
placed_more nodes lines points (Size n) len ids ones before = stay lines (Size n) points before (λ id x y e. cc)
placed_more nodes lines points (Place id x y) len ids ones before =
    let f = ids id x y refl in
    put nodes lines points id x y len f.0 f.1 f.2 ones before

length-points_after : (points : List Point) (line : CoLine) → length (points_after points line) ≡ length points
length-points_after points Skipped = refl
length-points_after points Faulty = refl
length-points_after points (Size n) = refl
length-points_after points (Place id x y) = length-set points (id - 1) (point_of x y)

length-placed_after : (placed : List Bool) (line : CoLine) → length (placed_after placed line) ≡ length placed
length-placed_after placed Skipped = refl
length-placed_after placed Faulty = refl
length-placed_after placed (Size n) = refl
length-placed_after placed (Place id x y) = length-set placed (id - 1) true

-- a line that places a vertex marks one more
marked_more : (nodes : ℕ) (placed : List Bool) (line : CoLine) → length placed ≡ nodes
    → ((id : ℕ) (x y : Signed) → line ≡ Place id x y → (1 ≤ id) × (id ≤ nodes) × (get_or placed (id - 1) false ≡ false))
    → count_by (λ mark. mark) (placed_after placed line) ≡ count_by (λ mark. mark) placed + (if is_place line then 1 else 0)
marked_more nodes placed Skipped len ids = omega arith
marked_more nodes placed Faulty len ids = omega arith
marked_more nodes placed (Size n) len ids = omega arith
marked_more nodes placed (Place id x y) len ids =
    let f = ids id x y refl in
    let within : id - 1 < length placed = omega (arith, f.0, f.1) in
    let unmarked : ◌≡◌ {A = ℕ} (cond (get_or placed (id - 1) false) 1 0) 0 = rw f.2 refl in
    omega (arith, sum_by-set (λ mark. cond mark 1 0) placed (id - 1) true false within)

-- where there are as many marks as vertices, each vertex is marked
all_marked : (marks : List Bool) (k : ℕ) (mark : Bool) → get_or marks k false ≡ mark → k < length marks
    → count_by (λ m. m) marks ≡ length marks → mark ≡ true
all_marked marks k true e lt full = refl
all_marked marks k false e lt full =
    let unmarked : ◌≡◌ {A = ℕ} (cond (get_or marks k false) 1 0) 0 = rw e refl in
    absurd (omega (arith, sum_by-set (λ m. cond m 1 0) marks k true false lt, count_by-le-length (λ m. m) (set marks k true), length-set marks k true))

-- the point of a vertex that a line places
placed_by : (lines : List CoLine) (points : List Point) (v : ℕ) (line : CoLine) (i : ℕ) → slice_get lines i ≡ Some line
    → is_place_of v line ≡ true → ArePlaced lines points → IsPlaced lines points v
placed_by lines points v Skipped i this e before = cc
placed_by lines points v Faulty i this e before = cc
placed_by lines points v (Size n) i this e before = cc
placed_by lines points v (Place id x y) i this e before =
    let same : id ≡ v = grind (arith, nat_tests) in
    let line : slice_get lines i ≡ Some (Place v x y) = this ∙ ap (λ u. Some (Place u x y)) same in
    record { place = i; x = x; y = y; line = line; point = before v x y i line }

placed_by_any : (lines : List CoLine) (points : List Point) (v : ℕ) → Any (λ line. is_place_of v line ≡ true) lines → ArePlaced lines points
    → IsPlaced lines points v
placed_by_any lines points v found before =
    let line : slice_get lines found.0 ≡ Some found.1 = slice_get-get_or lines found.0 found.1 found.2 ∙ ap (λ l. Some l) found.3 in
    placed_by lines points v found.1 found.0 line found.4 before

-- the points that the lines of a text gave
pub are_co_points : (nodes : ℕ) (text : List ℕ) (draft : Draft) → CoLinesHold nodes (co_lines text) → HasPlaced nodes draft (co_lines text)
    → draft.sized ≡ true → draft.count ≡ nodes → AreCoPoints nodes text draft.points.items
are_co_points nodes text draft hold read sized count =
    record {
      hold = hold;
      sized = sym read.sized ∙ sized;
      counted = sym read.count ∙ count;
      one_each = read.one_each;
      placed = λ v from to.
          let within : v - 1 < length draft.placed.items = omega (arith, read.one_mark_each) in
          let full : count_by (λ m. m) draft.placed.items ≡ length draft.placed.items = read.marked ∙ count ∙ sym read.one_mark_each in
          let mark : list_any (is_place_of v) (co_lines text) ≡ true =
          sym (read.marks v from to) ∙ all_marked draft.placed.items (v - 1) (get_or draft.placed.items (v - 1) false) refl within full in
          placed_by_any (co_lines text) draft.points.items v (Any-from_list_any (is_place_of v) (co_lines text) mark) read.placed;
    }

-- one line on
pub has_placed_more : (nodes : ℕ) (lines : List CoLine) (line : CoLine) (old new : Draft) (row : ℕ) → row ≡ length lines + 1 → HasPlaced nodes old lines
    → cause_at nodes old.sized old.placed.items line ≡ None
    → new.points.items ≡ points_after old.points.items line → new.placed.items ≡ placed_after old.placed.items line
    → new.count ≡ old.count + (if is_place line then 1 else 0) → new.row ≡ (if is_size line then row else old.row)
    → new.sized ≡ (old.sized || is_size line) → HasPlaced nodes new (lines ++ line ∷ [])
has_placed_more nodes lines line old new row number h holds points placed count row_is sized =
    let ids : (id : ℕ) (x y : Signed) → line ≡ Place id x y → (1 ≤ id) × (id ≤ nodes) × (get_or old.placed.items (id - 1) false ≡ false) =
    λ id x y e. place-of nodes old.sized old.placed.items id x y (rw e at holds) in
    record {
      sized = sized ∙ ap (λ b. b || is_size line) h.sized ∙ sym (list_any-push is_size lines line);
      row = λ e. row_more lines line old.sized row old.row new.row number row_is h.row (sym sized ∙ e);
      count = count ∙ ap (λ n. n + (if is_place line then 1 else 0)) h.count ∙ sym (sum_by_push (λ l. cond (is_place l) 1 0) lines line);
      marked = ap (count_by (λ m. m)) placed ∙ marked_more nodes old.placed.items line h.one_mark_each ids
          ∙ ap (λ n. n + (if is_place line then 1 else 0)) h.marked ∙ sym count;
      one_each = ap length points ∙ length-points_after old.points.items line ∙ h.one_each;
      one_mark_each = ap length placed ∙ length-placed_after old.placed.items line ∙ h.one_mark_each;
      marks = λ v from to. ap (λ (marks : List Bool). get_or marks (v - 1) false) placed
          ∙ marks_more nodes lines old.placed.items line h.one_mark_each (λ id x y e. let f = ids id x y e in (f.0, f.1)) h.marks v from to;
      from_one = from_one_more lines line h.from_one (λ id x y e. (ids id x y e).0);
      placed = rw points (placed_more nodes lines old.points.items line h.one_each
          (λ id x y e. let f = ids id x y e in (f.0, f.1, sym (h.marks id f.0 f.1) ∙ f.2)) h.from_one h.placed);
    }

-- no line gave anything
pub has_placed_none : (nodes : ℕ) (draft : Draft) → draft.sized ≡ false → draft.count ≡ 0 → draft.points.items ≡ replicate nodes (record { lat = pos 0; lon = pos 0 })
    → draft.placed.items ≡ replicate nodes false → HasPlaced nodes draft []
has_placed_none nodes draft sized count points placed =
    record {
      sized = sized;
      row = λ e. cc;
      count = count;
      marked = omega (arith, ap (count_by (λ m. m)) placed, sum_by-replicate (λ (m : Bool). cond m 1 0) nodes false, count);
      one_each = ap length points ∙ length-replicate nodes (record { lat = pos 0; lon = pos 0 });
      one_mark_each = ap length placed ∙ length-replicate nodes false;
      marks = λ v from to. ap (λ (marks : List Bool). get_or marks (v - 1) false) placed ∙ get_or-replicate nodes (v - 1) false false (omega arith);
      from_one = λ id x y i e. cc;
      placed = λ id x y i e. cc;
    }

-- the spot at a line
pub co_spot_here : (lines : List CoLine) (line : CoLine) (i : ℕ) → get_or lines i Skipped ≡ line
    → co_spot_at lines i ≡ record { before = take i lines; line = line }
co_spot_here lines line i e = rw e refl

-- the first refusal of a line is that of the text
pub refused_by_line : (nodes : ℕ) (text : List ℕ) (s : Stopped)
    → IfRefused {T = ℕ} (Err s) (λ r. (r.file ≡ Co) × IsFirstRefusal (co_rules nodes) (co_spot_at (co_lines text)) (length (co_lines text)) r.row r.cause)
    → IfRefused {T = ℕ} (Err s) (λ r. (r.file ≡ Co) × IsCoRefused nodes text r.row r.cause)
refused_by_line nodes text (Refused r) h = (h.0, by_line h.1)
refused_by_line nodes text NoMemory h = tt

-- what holds of no refusal holds of none
pub refused_none : (s : Stopped) (P : Refusal → Type 0) → IfRefused {T = ℕ} (Err s) (λ r. ⊥) → IfRefused {T = ℕ} (Err s) P
refused_none (Refused r) P h = absurd h
refused_none NoMemory P h = tt

-- no `p` line
pub refused_without : (nodes : ℕ) (text : List ℕ) (draft : Draft) (s : Stopped) → CoLinesHold nodes (co_lines text) → HasPlaced nodes draft (co_lines text)
    → draft.sized ≡ false → s ≡ Refused (record { file = Co; row = 0; cause = Line })
    → IfRefused {T = ℕ} (Err s) (λ r. (r.file ≡ Co) × IsCoRefused nodes text r.row r.cause)
refused_without nodes text draft s hold read none is = rw is (refl, no_size hold (sym read.sized ∙ none))

-- not every vertex is placed
pub refused_count : (nodes : ℕ) (text : List ℕ) (draft : Draft) (s : Stopped) → CoLinesHold nodes (co_lines text) → HasPlaced nodes draft (co_lines text)
    → draft.sized ≡ true → draft.count ≢ nodes → s ≡ Refused (record { file = Co; row = draft.row; cause = Count draft.count })
    → IfRefused {T = ℕ} (Err s) (λ r. (r.file ≡ Co) × IsCoRefused nodes text r.row r.cause)
refused_count nodes text draft s hold read some differs is =
    let other : count_by is_place (co_lines text) ≢ nodes = λ e. differs (read.count ∙ e) in
    rw (is, read.count) (refl, miscounted hold (read.row some) other)
