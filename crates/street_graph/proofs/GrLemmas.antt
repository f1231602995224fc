-- What the lines so far gave, one line on, and what follows behind the last line.
use Rattle.std.proofs.Common.{◌≡◌, ◌≢◌, ◌∙◌, ◌+◌, ◌<◌, ℕ, true, List, [], ◌∷◌, ◌++◌, length, take, get_or, map, Option, Some, None, Err, refl, sym, ap, below_more, arith}
use Rattle.std.specs.Prelude.{◌==◌, is_some, if◌then◌else◌}
use Rattle.std.specs.Str.Lines.{lines}
use Rattle.std.proofs.lemmas.List.{flat_map_more, nil_from_length}
use Rattle.std.proofs.lemmas.Bool.Decides.{nat_tests}
use Rattle.move_model.specs.declared.refusal.Cause.{Cause}
use Rattle.move_model.specs.declared.refusal.Cause.TheVariants.{Line, Count}
use Rattle.move_model.specs.declared.refusal.FileKind.TheVariants.{Gr}
use Rattle.move_model.specs.declared.refusal.Stopped.{Stopped}
use Rattle.move_model.specs.declared.refusal.Stopped.TheVariants.{Refused, NoMemory}
use Rattle.street_graph.specs.declared.gr.GrLine.{GrLine}
use Rattle.street_graph.specs.declared.gr.GrLine.TheVariants.{Skipped, Problem, Arc, Faulty}
use Rattle.street_graph.specs.declared.gr.Size.{Size}
use Rattle.street_graph.specs.declared.gr.Draft.{Draft}
use Rattle.street_graph.specs.Text.{fields}
use Rattle.refusals.specs.Refusal.{Accepted, IsFirstRefusal, first_cause}
use Rattle.street_graph.specs.Refused.{IfRefused}
use Rattle.street_graph.specs.Gr.{gr_lines, gr_line_of, gr_rules, form_broken, spot_at, size_in, size_of, first_some, arcs_in, arcs_of, IsSizeRow, LinesHold, IsGrRefused, by_line, no_size, miscounted}
use Rattle.street_graph.specs.GrDraft.{HasRead}
use Rattle.street_graph.proofs.LineLemmas.{slice_get-push, slice_get_last}
use Rattle.refusals.proofs.RefusalLemmas.{each_holds, first_broken}

first_some-assoc : {X : Type 0} (x y z : Option X) → first_some (first_some x y) z ≡ first_some x (first_some y z)
first_some-assoc None y z = refl
first_some-assoc (Some a) y z = refl

first_some-none : {X : Type 0} (x : Option X) → first_some x None ≡ x
first_some-none None = refl
first_some-none (Some a) = refl

pub size_of-append : (ls ms : List GrLine) → size_of (ls ++ ms) ≡ first_some (size_of ls) (size_of ms)
size_of-append [] ms = refl
size_of-append (l ∷ ls) ms = ap (first_some (size_in l)) (size_of-append ls ms) ∙ sym (first_some-assoc (size_in l) (size_of ls) (size_of ms))

size_of-push : (ls : List GrLine) (x : GrLine) → size_of (ls ++ x ∷ []) ≡ first_some (size_of ls) (size_in x)
size_of-push ls x = size_of-append ls (x ∷ []) ∙ ap (first_some (size_of ls)) (first_some-none (size_in x))

pub arcs_of-push : (ls : List GrLine) (x : GrLine) → arcs_of (ls ++ x ∷ []) ≡ arcs_of ls ++ arcs_in x
arcs_of-push ls x = sym (flat_map_more arcs_in [] ls x)

kept : (ls : List GrLine) (x : GrLine) (row : ℕ) (size : Size) → IsSizeRow ls row size → IsSizeRow (ls ++ x ∷ []) row size
kept ls x row size r = record { place = r.place; number = r.number; announced = slice_get-push ls x (Problem size.nodes size.arcs) r.place r.announced }

-- a size that stands already was given by no `p` line twice
only_once : (size : Size) (n m : ℕ) → first_cause gr_rules (record { given = Some size; line = Problem n m }) ≡ None → ⊥
unfolding gr_rules form_broken
only_once size n m e = cc e

row-of : (ls : List GrLine) (x : GrLine) (was : Option Size) (row old new : ℕ) (size : Size)
    → row ≡ length ls + 1 → new ≡ (if is_some (size_in x) then row else old)
    → first_cause gr_rules (record { given = was; line = x }) ≡ None
    → ((s : Size) → was ≡ Some s → IsSizeRow ls old s)
    → first_some was (size_in x) ≡ Some size → IsSizeRow (ls ++ x ∷ []) new size
row-of ls Skipped was row old new size number is holds before e = rw is (kept ls Skipped old size (before size (sym (first_some-none was) ∙ e)))
row-of ls Faulty was row old new size number is holds before e = rw is (kept ls Faulty old size (before size (sym (first_some-none was) ∙ e)))
row-of ls (Arc u v w) was row old new size number is holds before e = rw is (kept ls (Arc u v w) old size (before size (sym (first_some-none was) ∙ e)))
row-of ls (Problem n m) (Some s) row old new size number is holds before e = absurd (only_once s n m holds)
row-of ls (Problem n m) None row old new size number is holds before e =
    let nodes : n ≡ size.nodes = cc in
    let arcs : m ≡ size.arcs = cc in
    record { place = length ls; number = is ∙ number; announced = slice_get_last ls (Problem n m) ∙ cc }

-- one line on
pub has_read_more : (ls : List GrLine) (x : GrLine) (old new : Draft) (row : ℕ) → row ≡ length ls + 1 → HasRead old ls
    → first_cause gr_rules (record { given = old.size; line = x }) ≡ None
    → new.size ≡ first_some old.size (size_in x) → new.row ≡ (if is_some (size_in x) then row else old.row)
    → new.arcs ≡ old.arcs ++ arcs_in x → HasRead new (ls ++ x ∷ [])
has_read_more ls x old new row number h holds size row_is arcs =
    record {
      size = size ∙ ap (λ s. first_some s (size_in x)) h.size ∙ sym (size_of-push ls x);
      row = λ s e. row-of ls x old.size row old.row new.row s number row_is holds h.row (sym size ∙ e);
      arcs = arcs ∙ ap (λ front. front ++ arcs_in x) h.arcs ∙ sym (arcs_of-push ls x);
    }

-- the lines of a text are what its first line says and the lines behind
pub gr_lines_first : (text line rest : List ℕ) → lines text ≡ line ∷ lines rest → gr_lines text ≡ gr_line_of (fields line) ∷ gr_lines rest
unfolding gr_lines
gr_lines_first text line rest e = ap (map (λ l. gr_line_of (fields l))) e

pub gr_lines-nil : gr_lines [] ≡ []
unfolding gr_lines
gr_lines-nil = refl

-- the spot at that line
pub spot_here : (ls : List GrLine) (x : GrLine) (i : ℕ) (given : Option Size) → get_or ls i Skipped ≡ x → given ≡ size_of (take i ls)
    → spot_at ls i ≡ record { given = given; line = x }
spot_here ls x i given e g = rw (e, g) refl

-- the rules hold one line on
pub hold_more : (ls : List GrLine) (x : GrLine) (i : ℕ) (given : Option Size) → get_or ls i Skipped ≡ x → given ≡ size_of (take i ls)
    → Accepted gr_rules (spot_at ls) i → first_cause gr_rules (record { given = given; line = x }) ≡ None
    → Accepted gr_rules (spot_at ls) (i + 1)
hold_more ls x i given e g before holds =
    below_more _ _ before (each_holds gr_rules (spot_at ls i) (ap (first_cause gr_rules) (spot_here ls x i given e g) ∙ holds))

-- the first refusal is at that line
pub refusal_here : (ls : List GrLine) (x : GrLine) (i row : ℕ) (cause : Cause) (given : Option Size) → i < length ls → get_or ls i Skipped ≡ x
    → given ≡ size_of (take i ls) → Accepted gr_rules (spot_at ls) i → row ≡ i + 1
    → first_cause gr_rules (record { given = given; line = x }) ≡ Some cause
    → IsFirstRefusal gr_rules (spot_at ls) (length ls) row cause
refusal_here ls x i row cause given lt e g before number broken =
    record {
      place = i;
      number = number;
      within = lt;
      earlier = before;
      broken = first_broken gr_rules (spot_at ls i) cause (ap (first_cause gr_rules) (spot_here ls x i given e g) ∙ broken);
    }

-- a refusal of that line is the first refusal
pub refused_here : (ls : List GrLine) (x : GrLine) (i : ℕ) (given : Option Size) (s : Stopped) → i < length ls → get_or ls i Skipped ≡ x
    → given ≡ size_of (take i ls) → Accepted gr_rules (spot_at ls) i
    → IfRefused {T = ℕ} (Err s) (λ r. (r.file ≡ Gr) × (r.row ≡ i + 1) × (first_cause gr_rules (record { given = given; line = x }) ≡ Some r.cause))
    → IfRefused {T = ℕ} (Err s) (λ r. (r.file ≡ Gr) × IsFirstRefusal gr_rules (spot_at ls) (length ls) r.row r.cause)
refused_here ls x i given (Refused r) lt e g before h = (h.0, refusal_here ls x i r.row r.cause given lt e g before h.1 h.2)
refused_here ls x i given NoMemory lt e g before h = tt

-- no text, no line
pub gr_lines-empty : (rest : List ℕ) → (length rest == 0) ≡ true → gr_lines rest ≡ []
gr_lines-empty rest none =
    let empty : length rest ≡ 0 = grind (arith, nat_tests) in
    ap gr_lines (nil_from_length rest empty) ∙ gr_lines-nil

-- the first refusal of a line is that of the text
pub refused_by_line : (text : List ℕ) (s : Stopped)
    → IfRefused {T = ℕ} (Err s) (λ r. (r.file ≡ Gr) × IsFirstRefusal gr_rules (spot_at (gr_lines text)) (length (gr_lines text)) r.row r.cause)
    → IfRefused {T = ℕ} (Err s) (λ r. (r.file ≡ Gr) × IsGrRefused text r.row r.cause)
refused_by_line text (Refused r) h = (h.0, by_line h.1)
refused_by_line text NoMemory h = tt

-- no `p` line
pub refused_without : (text : List ℕ) (draft : Draft) (s : Stopped) → LinesHold (gr_lines text) → HasRead draft (gr_lines text) → draft.size ≡ None
    → s ≡ Refused (record { file = Gr; row = 0; cause = Line }) → IfRefused {T = ℕ} (Err s) (λ r. (r.file ≡ Gr) × IsGrRefused text r.row r.cause)
refused_without text draft s hold read none is = rw is (refl, no_size hold (sym read.size ∙ none))

-- another number of arcs
pub refused_count : (text : List ℕ) (draft : Draft) (size : Size) (count : ℕ) (s : Stopped) → LinesHold (gr_lines text) → HasRead draft (gr_lines text)
    → draft.size ≡ Some size → count ≡ length draft.arcs → count ≢ size.arcs
    → s ≡ Refused (record { file = Gr; row = draft.row; cause = Count count }) → IfRefused {T = ℕ} (Err s) (λ r. (r.file ≡ Gr) × IsGrRefused text r.row r.cause)
refused_count text draft size count s hold read some counted differs is =
    let number : count ≡ length (arcs_of (gr_lines text)) = counted ∙ ap length read.arcs in
    let other : length (arcs_of (gr_lines text)) ≢ size.arcs = λ e. differs (number ∙ e) in
    rw (is, number) (refl, miscounted hold (sym read.size ∙ some) (read.row size some) other)
