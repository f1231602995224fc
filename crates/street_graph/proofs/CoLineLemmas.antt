-- What a line of `.co` says, field by field.
use Rattle.std.proofs.Common.{◌≡◌, ℕ, true, false, List, [], ◌∷◌, Some, None, refl}
use Rattle.std.specs.Prelude.{◌==◌, slice_index, codes}
use Rattle.std.specs.Str.{bytes_eq}
use Rattle.street_graph.specs.declared.co.CoLine.{CoLine}
use Rattle.street_graph.specs.declared.co.CoLine.TheVariants.{Skipped, Size, Place, Faulty}
use Rattle.street_graph.specs.declared.co.Signed.{Signed}
use Rattle.street_graph.specs.Text.{number_of, first_number, first_is, BeginsWithNumber, BeginsWithWord}
use Rattle.street_graph.specs.Co.{size_line, place_line, co_line_of, signed_of}
use Rattle.street_graph.specs.CoDraft.{first_signed, BeginsWithSigned}

pub place_without : (fs : List (List ℕ)) → first_number fs ≡ None → Faulty ≡ place_line fs
unfolding place_line
place_without [] e = refl
place_without (u ∷ []) e = refl
place_without (u ∷ v ∷ []) e = refl
place_without (u ∷ v ∷ w ∷ []) e = rw e refl
place_without (u ∷ v ∷ w ∷ x ∷ more) e = refl

one-of : (u : List ℕ) (fs : List (List ℕ)) (a : ℕ) → number_of u ≡ Some a → first_signed fs ≡ None → Faulty ≡ place_line (u ∷ fs)
unfolding place_line
one-of u [] a i e = refl
one-of u (v ∷ []) a i e = refl
one-of u (v ∷ w ∷ []) a i e = rw (i, e) refl
one-of u (v ∷ w ∷ x ∷ more) a i e = refl

pub place_one : (all rest : List (List ℕ)) (a : ℕ) → BeginsWithNumber all a rest → first_signed rest ≡ None → Faulty ≡ place_line all
place_one all rest a b e = rw b.splits (one-of b.field rest a b.value e)

two-of : (u v : List ℕ) (fs : List (List ℕ)) (a : ℕ) (b : Signed) → number_of u ≡ Some a → signed_of v ≡ Some b → first_signed fs ≡ None
    → Faulty ≡ place_line (u ∷ v ∷ fs)
unfolding place_line
two-of u v [] a b i j e = refl
two-of u v (w ∷ []) a b i j e = rw (i, j, e) refl
two-of u v (w ∷ x ∷ more) a b i j e = refl

pub place_two : (all more rest : List (List ℕ)) (a : ℕ) (b : Signed) → BeginsWithNumber all a more → BeginsWithSigned more b rest
    → first_signed rest ≡ None → Faulty ≡ place_line all
place_two all more rest a b p q e = rw (p.splits, q.splits) (two-of p.field q.field rest a b p.value q.value_is e)

three-of : (u v w : List ℕ) (a : ℕ) (b c : Signed) → number_of u ≡ Some a → signed_of v ≡ Some b → signed_of w ≡ Some c
    → Place a b c ≡ place_line (u ∷ v ∷ w ∷ [])
unfolding place_line
three-of u v w a b c i j k = rw (i, j, k) refl

pub place_three : (all more most rest : List (List ℕ)) (a : ℕ) (b c : Signed) → BeginsWithNumber all a more → BeginsWithSigned more b most
    → BeginsWithSigned most c rest → rest ≡ [] → Place a b c ≡ place_line all
place_three all more most rest a b c p q r e =
    rw (p.splits, q.splits, r.splits, e) (three-of p.field q.field r.field a b c p.value q.value_is r.value_is)

four-of : (u v w x : List ℕ) (more : List (List ℕ)) → Faulty ≡ place_line (u ∷ v ∷ w ∷ x ∷ more)
unfolding place_line
four-of u v w x more = refl

pub place_four : (all more most rest last : List (List ℕ)) (a : ℕ) (b c : Signed) (x : List ℕ) → BeginsWithNumber all a more
    → BeginsWithSigned more b most → BeginsWithSigned most c rest → rest ≡ x ∷ last → Faulty ≡ place_line all
place_four all more most rest last a b c x p q r e =
    rw (p.splits, q.splits, r.splits, e) (four-of p.field q.field r.field x last)

-- the words before the number
pub size_other : (fs : List (List ℕ)) → first_is fs (codes "aux") ≡ false → Faulty ≡ size_line fs
unfolding size_line
size_other [] e = refl
size_other (a ∷ []) e = refl
size_other (a ∷ b ∷ []) e = refl
size_other (a ∷ b ∷ c ∷ []) e = refl
size_other (a ∷ b ∷ c ∷ n ∷ []) e = rw e refl
size_other (a ∷ b ∷ c ∷ n ∷ x ∷ more) e = refl

aux-of : (a : List ℕ) (fs : List (List ℕ)) → bytes_eq a (codes "aux") ≡ true → first_is fs (codes "sp") ≡ false → Faulty ≡ size_line (a ∷ fs)
unfolding size_line
aux-of a [] i e = refl
aux-of a (b ∷ []) i e = refl
aux-of a (b ∷ c ∷ []) i e = refl
aux-of a (b ∷ c ∷ n ∷ []) i e = rw (i, e) refl
aux-of a (b ∷ c ∷ n ∷ x ∷ more) i e = refl

pub size_one : (all rest : List (List ℕ)) → BeginsWithWord all (codes "aux") rest → first_is rest (codes "sp") ≡ false → Faulty ≡ size_line all
size_one all rest p e = rw p.splits (aux-of p.field rest p.same e)

sp-of : (a b : List ℕ) (fs : List (List ℕ)) → bytes_eq a (codes "aux") ≡ true → bytes_eq b (codes "sp") ≡ true → first_is fs (codes "co") ≡ false
    → Faulty ≡ size_line (a ∷ b ∷ fs)
unfolding size_line
sp-of a b [] i j e = refl
sp-of a b (c ∷ []) i j e = refl
sp-of a b (c ∷ n ∷ []) i j e = rw (i, j, e) refl
sp-of a b (c ∷ n ∷ x ∷ more) i j e = refl

pub size_two : (all more rest : List (List ℕ)) → BeginsWithWord all (codes "aux") more → BeginsWithWord more (codes "sp") rest
    → first_is rest (codes "co") ≡ false → Faulty ≡ size_line all
size_two all more rest p q e = rw (p.splits, q.splits) (sp-of p.field q.field rest p.same q.same e)

co-of : (a b c : List ℕ) (fs : List (List ℕ)) → bytes_eq a (codes "aux") ≡ true → bytes_eq b (codes "sp") ≡ true → bytes_eq c (codes "co") ≡ true
    → first_number fs ≡ None → Faulty ≡ size_line (a ∷ b ∷ c ∷ fs)
unfolding size_line
co-of a b c [] i j k e = refl
co-of a b c (n ∷ []) i j k e = rw (i, j, k, e) refl
co-of a b c (n ∷ x ∷ more) i j k e = refl

pub size_three : (all more most rest : List (List ℕ)) → BeginsWithWord all (codes "aux") more → BeginsWithWord more (codes "sp") most
    → BeginsWithWord most (codes "co") rest → first_number rest ≡ None → Faulty ≡ size_line all
size_three all more most rest p q r e = rw (p.splits, q.splits, r.splits) (co-of p.field q.field r.field rest p.same q.same r.same e)

number-of : (a b c u : List ℕ) (n : ℕ) → bytes_eq a (codes "aux") ≡ true → bytes_eq b (codes "sp") ≡ true → bytes_eq c (codes "co") ≡ true
    → number_of u ≡ Some n → Size n ≡ size_line (a ∷ b ∷ c ∷ u ∷ [])
unfolding size_line
number-of a b c u n i j k e = rw (i, j, k, e) refl

pub size_four : (all more most last rest : List (List ℕ)) (n : ℕ) → BeginsWithWord all (codes "aux") more → BeginsWithWord more (codes "sp") most
    → BeginsWithWord most (codes "co") last → BeginsWithNumber last n rest → rest ≡ [] → Size n ≡ size_line all
size_four all more most last rest n p q r s e =
    rw (p.splits, q.splits, r.splits, s.splits, e) (number-of p.field q.field r.field s.field n p.same q.same r.same s.value)

long-of : (a b c u x : List ℕ) (more : List (List ℕ)) → Faulty ≡ size_line (a ∷ b ∷ c ∷ u ∷ x ∷ more)
unfolding size_line
long-of a b c u x more = refl

pub size_five : (all more most last rest end : List (List ℕ)) (n : ℕ) (x : List ℕ) → BeginsWithWord all (codes "aux") more → BeginsWithWord more (codes "sp") most
    → BeginsWithWord most (codes "co") last → BeginsWithNumber last n rest → rest ≡ x ∷ end → Faulty ≡ size_line all
size_five all more most last rest end n x p q r s e =
    rw (p.splits, q.splits, r.splits, s.splits, e) (long-of p.field q.field r.field s.field x end)

pub line_empty : (fs : List (List ℕ)) → fs ≡ [] → Skipped ≡ co_line_of fs
unfolding co_line_of
line_empty fs e = rw e refl

pub line_comment : (fs more : List (List ℕ)) (word : List ℕ) → fs ≡ word ∷ more → (slice_index word 0 == 99) ≡ true → Skipped ≡ co_line_of fs
unfolding co_line_of
line_comment fs more word e first = rw (e, first) refl

pub line_size : (fs more : List (List ℕ)) (word : List ℕ) (line : CoLine) → fs ≡ word ∷ more → (slice_index word 0 == 99) ≡ false
    → bytes_eq word (codes "p") ≡ true → line ≡ size_line more → line ≡ co_line_of fs
unfolding co_line_of
line_size fs more word line e first p is = rw (e, first, p) is

pub line_place : (fs more : List (List ℕ)) (word : List ℕ) (line : CoLine) → fs ≡ word ∷ more → (slice_index word 0 == 99) ≡ false
    → bytes_eq word (codes "p") ≡ false → bytes_eq word (codes "v") ≡ true → line ≡ place_line more → line ≡ co_line_of fs
unfolding co_line_of
line_place fs more word line e first p v is = rw (e, first, p, v) is

pub line_other : (fs more : List (List ℕ)) (word : List ℕ) → fs ≡ word ∷ more → (slice_index word 0 == 99) ≡ false
    → bytes_eq word (codes "p") ≡ false → bytes_eq word (codes "v") ≡ false → Faulty ≡ co_line_of fs
unfolding co_line_of
line_other fs more word e first p v = rw (e, first, p, v) refl
