-- A text has no more records than its lines.
use Rattle.std.proofs.Common.{add-one, ◌≡◌, ◌<◌, ◌≤◌, ◌+◌, ◌⊎◌, ℕ, zero, suc, List, [], ◌∷◌, ◌++◌, length, Bool, true, false, cond, Option, Some, None, refl, ap, inl, inr, arith}
use Rattle.std.specs.Prelude.{◌==◌, ◌||◌, nat_lt, if◌then◌else◌, count_by}
use Rattle.std.specs.List.{sum_by}
use Rattle.std.proofs.lemmas.Bool.Decides.{nat_tests}
use Rattle.std.proofs.lemmas.List.Sums.{sum_by-cons}
use Rattle.csv.specs.Machine.{step, start_record, start_field, in_field, after_end, ends_with, is_end, ends_at_end, fields_after, field_after, next_record, Read, is_byte}
use Rattle.csv.specs.Reading.{default_config, records_from, records_next, is_bom}
use Rattle.csv.specs.declared.parser.State.{State}
use Rattle.csv.specs.declared.parser.State.TheVariants as st
use Rattle.csv.specs.declared.parser.Action.{Action}
use Rattle.csv.specs.declared.parser.Action.TheVariants as act
use Rattle.tables.specs.Table.{cut_marks, table_of, rows_of, is_line_end}
use Rattle.tables.proofs.TableLemmas.{length-rows_of}
use Rattle.tables.proofs.Whole.{one-record, none-at-end}

-- a step that ends a record takes the end of a line
record Ends (r : State × Action) (c : ℕ) : Type 0 where
  line : is_end r.1 ≡ true → is_line_end c ≡ true

pick : (b : Bool) (x y : State × Action) (c : ℕ) → (b ≡ true → Ends x c) → Ends y c → Ends (if b then x else y) c
pick true x y c f g = f refl
pick false x y c f g = g

skip : (s : State) (c : ℕ) → Ends (s, act.Skip) c
skip s c = record { line = λ e. cc e }

copy : (s : State) (c : ℕ) → Ends (s, act.Copy) c
copy s c = record { line = λ e. cc e }

field : (s : State) (c : ℕ) → Ends (s, act.EndField) c
field s c = record { line = λ e. cc e }

swapped : (a b : Bool) → (a || b) ≡ true → (b || a) ≡ true
swapped true true e = refl
swapped true false e = refl
swapped false true e = refl
swapped false false e = e

in-field : (c : ℕ) → Ends (in_field default_config c) c
in-field c = pick _ _ _ c (λ _. field st.StartField c) (pick _ _ _ c (λ ends. record { line = λ e. swapped (c == 13) (c == 10) ends }) (copy st.InField c))

start-field : (c : ℕ) → Ends (start_field default_config c) c
start-field c = pick _ _ _ c (λ _. skip st.InQuoted c) (in-field c)

start-record : (c : ℕ) → Ends (start_record default_config c) c
start-record c = pick _ _ _ c (λ _. skip st.StartRecord c) (start-field c)

each-step : (s : State) (c : ℕ) → Ends (step default_config s c) c
each-step st.StartRecord c = start-record c
each-step st.StartField c = start-field c
each-step st.InField c = in-field c
each-step st.InQuoted c = pick _ _ _ c (λ _. skip st.AfterQuote c) (copy st.InQuoted c)
each-step st.InEscape c = copy st.InQuoted c
each-step st.AfterQuote c = pick _ _ _ c (λ _. copy st.InQuoted c) (in-field c)
each-step st.InComment c = pick _ _ _ c (λ _. skip st.StartRecord c) (skip st.InComment c)
each-step st.AfterCr c = pick _ _ _ c (λ _. skip st.StartRecord c) (start-record c)

abbrev pub ends_in : List ℕ → ℕ
ends_in xs = count_by is_line_end xs

ends-cons : (c : ℕ) (xs : List ℕ) → ends_in (c ∷ xs) ≡ cond (is_line_end c) 1 0 + ends_in xs
ends-cons c xs = sum_by-cons (λ x. cond (is_line_end x) 1 0) c xs

-- a record that was read took the end of a line, or is the last
abbrev Takes : ℕ → Option Read → Type 0
Takes n None = Unit {0}
Takes n (Some q) = (ends_in q.2 + 1 ≤ n) ⊎ (q.2 ≡ [])

weaker : (n m : ℕ) (q : Option Read) → n ≤ m → Takes n q → Takes m q
weaker n m None le t = tt
weaker n m (Some q) le (inl t) = inl (omega (arith, t))
weaker n m (Some q) le (inr t) = inr t

choose : (n : ℕ) (b : Bool) (x y : Option Read) → (b ≡ true → Takes n x) → Takes n y → Takes n (if b then x else y)
choose n true x y f g = f refl
choose n false x y f g = g

counted : (b : Bool) → b ≡ true → ◌≡◌ {A = ℕ} (cond b 1 0) 1
counted true e = refl
counted false e = cc e

at-end : (c : ℕ) (xs : List ℕ) → is_line_end c ≡ true → ends_in xs + 1 ≤ ends_in (c ∷ xs)
at-end c xs e = omega (arith, ends-cons c xs, counted (is_line_end c) e)

takes : (xs : List ℕ) (s : State) (fields : List (List ℕ)) (part : List ℕ) → Takes (ends_in xs) (next_record default_config s fields part xs)
unfolding next_record
takes [] s fields part = choose 0 (ends_at_end s) (Some (fields ++ part ∷ [], st.StartRecord, [])) None (λ e. inr refl) tt
takes (c ∷ xs) s fields part =
    choose (ends_in (c ∷ xs)) (is_end (step default_config s c).1)
    (Some (fields_after (step default_config s c).1 fields part, (step default_config s c).0, xs))
    (next_record default_config (step default_config s c).0 (fields_after (step default_config s c).1 fields part) (field_after (step default_config s c).1 c part) xs)
    (λ e. inl (at-end c xs ((each-step s c).line e)))
    (weaker (ends_in xs) (ends_in (c ∷ xs)) _ (omega (arith, ends-cons c xs)) (takes xs _ _ _))

no-records : (n : ℕ) (s : State) → ends_at_end s ≡ false → records_from default_config n s [] ≡ []
unfolding records_from
no-records zero s between = refl
no-records (suc n) s between = rw (none-at-end default_config s between) refl

records_lines-of : (n : ℕ) (s : State) (xs : List ℕ) (o : Option Read) → next_record default_config s [] [] xs ≡ o → ends_at_end s ≡ false
    → ((t : State) (ys : List ℕ) → ends_at_end t ≡ false → length (records_from default_config n t ys) ≤ ends_in ys + 1)
    → length (records_next (records_from default_config n) o) ≤ ends_in xs + 1
records_lines-of n s xs None reads between more = omega arith
records_lines-of n s xs (Some p) reads between more =
    let left = rw reads at (one-record default_config xs s [] []) in
    let line = rw reads at (takes xs s [] []) in
    elim line [
      | inl less ↦ omega (arith, less, more p.1 p.2 left.1)
      | inr none ↦ (let nothing : records_from default_config n p.1 p.2 ≡ [] = rw none (no-records n p.1 left.1) in omega (arith, ap length nothing))
    ]

records_lines : (n : ℕ) (s : State) (xs : List ℕ) → ends_at_end s ≡ false → length (records_from default_config n s xs) ≤ ends_in xs + 1
unfolding records_from
records_lines zero s xs between = omega arith
records_lines (suc n) s xs between = records_lines-of n s xs (next_record default_config s [] [] xs) refl between (λ t ys b. records_lines n t ys b)

cut-pick : (b : Bool) (cut xs : List ℕ) (n : ℕ) → ends_in cut ≤ n → ends_in xs ≤ n → ends_in (if b then cut else xs) ≤ n
cut-pick true cut xs n f g = f
cut-pick false cut xs n f g = g

cut_marks-ends : (xs : List ℕ) → ends_in (cut_marks xs) ≤ ends_in xs
unfolding cut_marks
cut_marks-ends [] = omega arith
cut_marks-ends (a ∷ []) = omega arith
cut_marks-ends (a ∷ b ∷ []) = omega arith
cut_marks-ends (a ∷ b ∷ c ∷ xs) =
    cut-pick (is_bom a b c) (cut_marks xs) (a ∷ b ∷ c ∷ xs) _ (omega (arith, cut_marks-ends xs, ends-cons c xs, ends-cons b (c ∷ xs), ends-cons a (b ∷ c ∷ xs))) (omega arith)

-- there are no more rows behind a header than ends of lines
pub rows_of-lines : (bytes : List ℕ) → length (rows_of bytes) ≤ ends_in bytes
unfolding table_of
rows_of-lines bytes = omega (arith, length-rows_of bytes, records_lines (length (cut_marks bytes) + 1) st.StartRecord (cut_marks bytes) refl, cut_marks-ends bytes)

-- so a file of few lines has few rows
pub few_rows : (bytes : List ℕ) (lines limit : ℕ) → lines ≡ ends_in bytes → lines ≤ limit
    → None ≡ (if nat_lt limit (length (rows_of bytes)) then Some (length (rows_of bytes)) else None)
few_rows bytes lines limit is few =
    let within : length (rows_of bytes) ≤ limit = omega (arith, rows_of-lines bytes) in
    let below : nat_lt limit (length (rows_of bytes)) ≡ false = grind arith in
    rw below refl

-- what a count of rows above a limit says
lt-of : (a b : ℕ) → nat_lt a b ≡ true → a < b
lt-of a b e = grind (arith, nat_tests)

le-of : (a b : ℕ) → nat_lt a b ≡ false → b ≤ a
le-of a b e = grind (arith, nat_tests)

count-of : (b : Bool) (limit rows count : ℕ) → nat_lt limit rows ≡ b → Some count ≡ (if b then Some rows else None) → (count ≡ rows) × (limit < rows)
count-of true limit rows count is e = (cc e, lt-of limit rows is)
count-of false limit rows count is e = cc e

none-of : (b : Bool) (limit rows : ℕ) → nat_lt limit rows ≡ b → None ≡ (if b then Some rows else None) → rows ≤ limit
none-of true limit rows is e = cc e
none-of false limit rows is e = le-of limit rows is

pub above-Some : (limit rows count : ℕ) → Some count ≡ (if nat_lt limit rows then Some rows else None) → (count ≡ rows) × (limit < rows)
above-Some limit rows count e = count-of (nat_lt limit rows) limit rows count refl e

pub above-None : (limit rows : ℕ) → None ≡ (if nat_lt limit rows then Some rows else None) → rows ≤ limit
above-None limit rows e = none-of (nat_lt limit rows) limit rows refl e
