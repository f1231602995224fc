-- What a line of `.gr` says, field by field.
use Rattle.std.proofs.Common.{◌≡◌, ℕ, true, false, List, [], ◌∷◌, Some, None, refl}
use Rattle.std.specs.Prelude.{◌==◌, slice_index, codes}
use Rattle.std.specs.Str.{bytes_eq}
use Rattle.street_graph.specs.declared.gr.GrLine.{GrLine}
use Rattle.street_graph.specs.declared.gr.GrLine.TheVariants.{Skipped, Problem, Arc, Faulty}
use Rattle.street_graph.specs.Text.{number_of, first_number, first_is, BeginsWithNumber, BeginsWithWord}
use Rattle.street_graph.specs.Gr.{arc_line, problem_line, gr_line_of}

pub arc_without : (fs : List (List ℕ)) → first_number fs ≡ None → Faulty ≡ arc_line fs
unfolding arc_line
arc_without [] e = refl
arc_without (u ∷ []) e = refl
arc_without (u ∷ v ∷ []) e = refl
arc_without (u ∷ v ∷ w ∷ []) e = rw e refl
arc_without (u ∷ v ∷ w ∷ x ∷ more) e = refl

one-of : (u : List ℕ) (fs : List (List ℕ)) (a : ℕ) → number_of u ≡ Some a → first_number fs ≡ None → Faulty ≡ arc_line (u ∷ fs)
unfolding arc_line
one-of u [] a i e = refl
one-of u (v ∷ []) a i e = refl
one-of u (v ∷ w ∷ []) a i e = rw (i, e) refl
one-of u (v ∷ w ∷ x ∷ more) a i e = refl

pub arc_one : (all rest : List (List ℕ)) (a : ℕ) → BeginsWithNumber all a rest → first_number rest ≡ None → Faulty ≡ arc_line all
arc_one all rest a b e = rw b.splits (one-of b.field rest a b.value e)

two-of : (u v : List ℕ) (fs : List (List ℕ)) (a b : ℕ) → number_of u ≡ Some a → number_of v ≡ Some b → first_number fs ≡ None
    → Faulty ≡ arc_line (u ∷ v ∷ fs)
unfolding arc_line
two-of u v [] a b i j e = refl
two-of u v (w ∷ []) a b i j e = rw (i, j, e) refl
two-of u v (w ∷ x ∷ more) a b i j e = refl

pub arc_two : (all more rest : List (List ℕ)) (a b : ℕ) → BeginsWithNumber all a more → BeginsWithNumber more b rest → first_number rest ≡ None
    → Faulty ≡ arc_line all
arc_two all more rest a b p q e = rw (p.splits, q.splits) (two-of p.field q.field rest a b p.value q.value e)

three-of : (u v w : List ℕ) (a b c : ℕ) → number_of u ≡ Some a → number_of v ≡ Some b → number_of w ≡ Some c
    → Arc a b c ≡ arc_line (u ∷ v ∷ w ∷ [])
unfolding arc_line
three-of u v w a b c i j k = rw (i, j, k) refl

pub arc_three : (all more most rest : List (List ℕ)) (a b c : ℕ) → BeginsWithNumber all a more → BeginsWithNumber more b most
    → BeginsWithNumber most c rest → rest ≡ [] → Arc a b c ≡ arc_line all
arc_three all more most rest a b c p q r e =
    rw (p.splits, q.splits, r.splits, e) (three-of p.field q.field r.field a b c p.value q.value r.value)

four-of : (u v w x : List ℕ) (more : List (List ℕ)) → Faulty ≡ arc_line (u ∷ v ∷ w ∷ x ∷ more)
unfolding arc_line
four-of u v w x more = refl

pub arc_four : (all more most rest last : List (List ℕ)) (a b c : ℕ) (x : List ℕ) → BeginsWithNumber all a more → BeginsWithNumber more b most
    → BeginsWithNumber most c rest → rest ≡ x ∷ last → Faulty ≡ arc_line all
arc_four all more most rest last a b c x p q r e =
    rw (p.splits, q.splits, r.splits, e) (four-of p.field q.field r.field x last)

pub problem_other : (fs : List (List ℕ)) → first_is fs (codes "sp") ≡ false → Faulty ≡ problem_line fs
unfolding problem_line
problem_other [] e = refl
problem_other (kind ∷ []) e = refl
problem_other (kind ∷ n ∷ []) e = refl
problem_other (kind ∷ n ∷ m ∷ []) e = rw e refl
problem_other (kind ∷ n ∷ m ∷ x ∷ more) e = refl

none-of : (kind : List ℕ) (fs : List (List ℕ)) → bytes_eq kind (codes "sp") ≡ true → first_number fs ≡ None → Faulty ≡ problem_line (kind ∷ fs)
unfolding problem_line
none-of kind [] k e = refl
none-of kind (n ∷ []) k e = refl
none-of kind (n ∷ m ∷ []) k e = rw (k, e) refl
none-of kind (n ∷ m ∷ x ∷ more) k e = refl

pub problem_without : (all rest : List (List ℕ)) → BeginsWithWord all (codes "sp") rest → first_number rest ≡ None → Faulty ≡ problem_line all
problem_without all rest w none = rw w.splits (none-of w.field rest w.same none)

single-of : (kind u : List ℕ) (fs : List (List ℕ)) (a : ℕ) → bytes_eq kind (codes "sp") ≡ true → number_of u ≡ Some a → first_number fs ≡ None
    → Faulty ≡ problem_line (kind ∷ u ∷ fs)
unfolding problem_line
single-of kind u [] a k i e = refl
single-of kind u (m ∷ []) a k i e = rw (k, i, e) refl
single-of kind u (m ∷ x ∷ more) a k i e = refl

pub problem_one : (all more rest : List (List ℕ)) (a : ℕ) → BeginsWithWord all (codes "sp") more → BeginsWithNumber more a rest
    → first_number rest ≡ None → Faulty ≡ problem_line all
problem_one all more rest a w p none = rw (w.splits, p.splits) (single-of w.field p.field rest a w.same p.value none)

both-of : (kind u v : List ℕ) (a b : ℕ) → bytes_eq kind (codes "sp") ≡ true → number_of u ≡ Some a → number_of v ≡ Some b
    → Problem a b ≡ problem_line (kind ∷ u ∷ v ∷ [])
unfolding problem_line
both-of kind u v a b k i j = rw (k, i, j) refl

pub problem_two : (all more most rest : List (List ℕ)) (a b : ℕ) → BeginsWithWord all (codes "sp") more
    → BeginsWithNumber more a most → BeginsWithNumber most b rest → rest ≡ [] → Problem a b ≡ problem_line all
problem_two all more most rest a b w p q end =
    rw (w.splits, p.splits, q.splits, end) (both-of w.field p.field q.field a b w.same p.value q.value)

long-of : (kind u v x : List ℕ) (more : List (List ℕ)) → Faulty ≡ problem_line (kind ∷ u ∷ v ∷ x ∷ more)
unfolding problem_line
long-of kind u v x more = refl

pub problem_three : (all more most rest last : List (List ℕ)) (x : List ℕ) (a b : ℕ) → BeginsWithWord all (codes "sp") more
    → BeginsWithNumber more a most → BeginsWithNumber most b rest → rest ≡ x ∷ last → Faulty ≡ problem_line all
problem_three all more most rest last x a b w p q end =
    rw (w.splits, p.splits, q.splits, end) (long-of w.field p.field q.field x last)

pub line_empty : (fs : List (List ℕ)) → fs ≡ [] → Skipped ≡ gr_line_of fs
unfolding gr_line_of
line_empty fs e = rw e refl

pub line_comment : (fs more : List (List ℕ)) (word : List ℕ) → fs ≡ word ∷ more → (slice_index word 0 == 99) ≡ true → Skipped ≡ gr_line_of fs
unfolding gr_line_of
line_comment fs more word e first = rw (e, first) refl

pub line_problem : (fs more : List (List ℕ)) (word : List ℕ) (line : GrLine) → fs ≡ word ∷ more → (slice_index word 0 == 99) ≡ false
    → bytes_eq word (codes "p") ≡ true → line ≡ problem_line more → line ≡ gr_line_of fs
unfolding gr_line_of
line_problem fs more word line e first p is = rw (e, first, p) is

pub line_arc : (fs more : List (List ℕ)) (word : List ℕ) (line : GrLine) → fs ≡ word ∷ more → (slice_index word 0 == 99) ≡ false
    → bytes_eq word (codes "p") ≡ false → bytes_eq word (codes "a") ≡ true → line ≡ arc_line more → line ≡ gr_line_of fs
unfolding gr_line_of
line_arc fs more word line e first p a is = rw (e, first, p, a) is

pub line_other : (fs more : List (List ℕ)) (word : List ℕ) → fs ≡ word ∷ more → (slice_index word 0 == 99) ≡ false
    → bytes_eq word (codes "p") ≡ false → bytes_eq word (codes "a") ≡ false → Faulty ≡ gr_line_of fs
unfolding gr_line_of
line_other fs more word e first p a = rw (e, first, p, a) refl
