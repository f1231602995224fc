-- One record of a text, and those behind it.
use Rattle.std.proofs.Common.{add-one, ◌≡◌, ◌<◌, ◌≤◌, ◌+◌, ◌-◌, ℕ, zero, suc, List, [], ◌∷◌, ◌++◌, length, Bool, true, false, Option, Some, None, refl, ap, arith}
use Rattle.std.specs.Bool.{if◌then◌else◌}
use Rattle.std.specs.Prelude.{◌==◌}
use Rattle.csv.specs.Machine.{step, start_record, start_field, in_field, after_end, is_end, ends_at_end, fields_after, field_after, next_record, Read, carriage_return}
use Rattle.csv.specs.Reading.{records_from, records_next}
use Rattle.csv.specs.declared.parser.Config.{Config}
use Rattle.csv.specs.declared.parser.State.{State}
use Rattle.csv.specs.declared.parser.State.TheVariants as st
use Rattle.csv.specs.declared.parser.Action.{Action}
use Rattle.csv.specs.declared.parser.Action.TheVariants as act
use Rattle.csv.specs.declared.parser.Terminator.{Terminator}
use Rattle.csv.specs.declared.parser.Terminator.TheVariants as term

-- where a step ends a record, the end of a text after it ends no other
record Between (r : State × Action) : Type 0 where
  ends : is_end r.1 ≡ true → ends_at_end r.0 ≡ false

pick : (b : Bool) (x y : State × Action) → Between x → Between y → Between (if b then x else y)
pick true x y f g = f
pick false x y f g = g

skip : (s : State) → Between (s, act.Skip)
skip s = record { ends = λ e. cc e }

copy : (s : State) → Between (s, act.Copy)
copy s = record { ends = λ e. cc e }

field : (s : State) → Between (s, act.EndField)
field s = record { ends = λ e. cc e }

after : (t : Terminator) (c : ℕ) → ends_at_end (after_end t c) ≡ false
after term.CRLF c = elim (c == carriage_return) as (λ b. ends_at_end (if b then st.AfterCr else st.StartRecord) ≡ false) [ true ↦ refl | false ↦ refl ]
after (term.Any t) c = refl

in-field : (cfg : Config) (c : ℕ) → Between (in_field cfg c)
in-field cfg c = pick _ _ _ (field st.StartField) (pick _ _ _ (record { ends = λ e. after cfg.terminator c }) (copy st.InField))

start-field : (cfg : Config) (c : ℕ) → Between (start_field cfg c)
start-field cfg c = pick _ _ _ (skip st.InQuoted) (in-field cfg c)

start-record : (cfg : Config) (c : ℕ) → Between (start_record cfg c)
start-record cfg c = pick _ _ _ (skip st.StartRecord) (pick _ _ _ (skip st.InComment) (start-field cfg c))

each-step : (cfg : Config) (s : State) (c : ℕ) → Between (step cfg s c)
each-step cfg st.StartRecord c = start-record cfg c
each-step cfg st.StartField c = start-field cfg c
each-step cfg st.InField c = in-field cfg c
each-step cfg st.InQuoted c = pick _ _ _ (skip st.AfterQuote) (pick _ _ _ (skip st.InEscape) (copy st.InQuoted))
each-step cfg st.InEscape c = copy st.InQuoted
each-step cfg st.AfterQuote c = pick _ _ _ (copy st.InQuoted) (in-field cfg c)
each-step cfg st.InComment c = pick _ _ _ (skip st.StartRecord) (skip st.InComment)
each-step cfg st.AfterCr c = pick _ _ _ (skip st.StartRecord) (start-record cfg c)

-- a record that was read took a byte, where there was one, and the end of the text ends no other
abbrev Takes : ℕ → Option Read → Type 0
Takes n None = Unit {0}
Takes n (Some q) = (length q.2 ≤ n - 1) × (ends_at_end q.1 ≡ false)

weaker : (n : ℕ) (q : Option Read) → Takes n q → Takes (suc n) q
weaker n None t = tt
weaker n (Some q) t = (omega (arith, t.0), t.1)

choose : (n : ℕ) (b : Bool) (x y : Option Read) → (b ≡ true → Takes n x) → Takes n y → Takes n (if b then x else y)
choose n true x y f g = f refl
choose n false x y f g = g

pub one-record : (cfg : Config) (xs : List ℕ) (s : State) (fields : List (List ℕ)) (part : List ℕ) → Takes (length xs) (next_record cfg s fields part xs)
unfolding next_record
one-record cfg [] s fields part = choose 0 (ends_at_end s) (Some (fields ++ part ∷ [], st.StartRecord, [])) None (λ e. (omega arith, refl)) tt
one-record cfg (c ∷ xs) s fields part =
    choose (suc (length xs)) (is_end (step cfg s c).1)
    (Some (fields_after (step cfg s c).1 fields part, (step cfg s c).0, xs))
    (next_record cfg (step cfg s c).0 (fields_after (step cfg s c).1 fields part) (field_after (step cfg s c).1 c part) xs)
    (λ e. (omega arith, (each-step cfg s c).ends e))
    (weaker _ _ (one-record cfg xs _ _ _))

-- at the end of a text there is no record, in a state that ends none
pub none-at-end : (cfg : Config) (s : State) → ends_at_end s ≡ false → next_record cfg s [] [] [] ≡ None
unfolding next_record
none-at-end cfg s e = rw e refl

long : (cfg : Config) (s : State) (xs : List ℕ) (p : Read) → ends_at_end s ≡ false → next_record cfg s [] [] xs ≡ Some p → 0 < length xs
long cfg s [] p between reads = let none = none-at-end cfg s between in cc
long cfg s (x ∷ xs) p between reads = omega arith

-- the count of turns does not matter, where it is past the text's length
fuel-of : (cfg : Config) (n m : ℕ) (s : State) (xs : List ℕ) (o : Option Read) → next_record cfg s [] [] xs ≡ o → length xs < suc n → length xs < suc m → ends_at_end s ≡ false
    → ((t : State) (ys : List ℕ) → length ys < n → length ys < m → ends_at_end t ≡ false → records_from cfg n t ys ≡ records_from cfg m t ys)
    → records_next (records_from cfg n) o ≡ records_next (records_from cfg m) o
fuel-of cfg n m s xs None reads a b between more = refl
fuel-of cfg n m s xs (Some p) reads a b between more =
    let t = rw reads at (one-record cfg xs s [] []) in
    let some : 0 < length xs = long cfg s xs p between reads in
    ap (λ rest. p.0 ∷ rest) (more p.1 p.2 (omega (arith, t.0)) (omega (arith, t.0)) t.1)

pub fuel : (cfg : Config) (n m : ℕ) (s : State) (xs : List ℕ) → length xs < n → length xs < m → ends_at_end s ≡ false
    → records_from cfg n s xs ≡ records_from cfg m s xs
unfolding records_from
fuel cfg zero m s xs a b between = absurd (omega arith)
fuel cfg (suc n) zero s xs a b between = absurd (omega arith)
fuel cfg (suc n) (suc m) s xs a b between =
    fuel-of cfg n m s xs (next_record cfg s [] [] xs) refl a b between (λ t ys c d e. fuel cfg n m t ys c d e)

-- one record of a text, and those after it
pub first-of : (cfg : Config) (s : State) (xs : List ℕ) (p : Read) → ends_at_end s ≡ false → next_record cfg s [] [] xs ≡ Some p
    → (records_from cfg (length xs + 1) s xs ≡ p.0 ∷ records_from cfg (length p.2 + 1) p.1 p.2) × (ends_at_end p.1 ≡ false)
unfolding records_from
first-of cfg s xs p between reads =
    let t = rw reads at (one-record cfg xs s [] []) in
    let some : 0 < length xs = long cfg s xs p between reads in
    let same : records_from cfg (length xs) p.1 p.2 ≡ records_from cfg (length p.2 + 1) p.1 p.2 = fuel cfg (length xs) (length p.2 + 1) p.1 p.2 (omega (arith, t.0)) (omega arith) t.1 in
    (rw (add-one, reads) (ap (λ rest. p.0 ∷ rest) same), t.1)

-- where no record comes, none is left
pub none-left-of : (cfg : Config) (s : State) (xs : List ℕ) → next_record cfg s [] [] xs ≡ None → records_from cfg (length xs + 1) s xs ≡ []
unfolding records_from
none-left-of cfg s xs none = rw (add-one, none) refl

-- a text has no more records than bytes
records_le-of : (cfg : Config) (n : ℕ) (s : State) (xs : List ℕ) (o : Option Read) → next_record cfg s [] [] xs ≡ o → ends_at_end s ≡ false
    → ((t : State) (ys : List ℕ) → ends_at_end t ≡ false → length (records_from cfg n t ys) ≤ length ys)
    → length (records_next (records_from cfg n) o) ≤ length xs
records_le-of cfg n s xs None reads between more = omega arith
records_le-of cfg n s xs (Some p) reads between more =
    let t = rw reads at (one-record cfg xs s [] []) in
    let some : 0 < length xs = long cfg s xs p between reads in
    omega (arith, t.0, more p.1 p.2 t.1)

pub records_le : (cfg : Config) (n : ℕ) (s : State) (xs : List ℕ) → ends_at_end s ≡ false → length (records_from cfg n s xs) ≤ length xs
unfolding records_from
records_le cfg zero s xs between = omega arith
records_le cfg (suc n) s xs between = records_le-of cfg n s xs (next_record cfg s [] [] xs) refl between (λ t ys b. records_le cfg n t ys b)
