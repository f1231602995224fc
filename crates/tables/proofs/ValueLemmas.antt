-- What a rule on a value says of the value where it holds.
use Rattle.std.proofs.Common.{◌≡◌, ◌∙◌, ◌+◌, ◌-◌, ◌*◌, ◌<◌, ◌≤◌, ℕ, List, [], ◌∷◌, length, take, Bool, true, false, Option, Some, None, refl, sym, arith, length-take}
use Rattle.std.specs.Prelude.{◌&&◌, ◌==◌, nat_lt, nat_le, is_some, unwrap_or, if◌then◌else◌}
use Rattle.std.specs.Char.{is_ascii_digit}
use Rattle.std.proofs.lemmas.Bool.Decides.{nat_tests}
use Rattle.move_model.specs.declared.refusal.Cause.{Cause}
use Rattle.move_model.specs.declared.refusal.Cause.TheVariants as cause
use Rattle.move_model.specs.Time.{digits_after, from_end, hours_in, is_sixtieth, is_time, time_of, two_digits}
use Rattle.tables.specs.Values.{number_of, number_in, is_within, number_broken, time_in, time_broken}

holds : {C : Type 0} (b : Bool) (c : C) → (if b then None else Some c) ≡ None → b ≡ true
holds true c e = refl
holds false c e = cc e

both : (a b : Bool) → (a && b) ≡ true → (a ≡ true) × (b ≡ true)
both true b e = (refl, e)
both false b e = cc e

le-of : (a b : ℕ) → nat_le a b ≡ true → a ≤ b
le-of a b e = grind (arith, nat_tests)

-- a whole number of a range is in the range
pub number_in-within : (low high : ℕ) (text : List ℕ) → number_broken low high text ≡ None → (low ≤ number_in text) × (number_in text ≤ high)
unfolding number_broken
number_in-within low high text e =
    let parts = both (is_some (number_of text) && nat_le low (number_in text)) (nat_le (number_in text) high) (holds (is_within low high text) cause.Number e) in
    let low_part = both (is_some (number_of text)) (nat_le low (number_in text)) parts.0 in
    (le-of low (number_in text) low_part.1, le-of (number_in text) high parts.1)

-- the greatest number that as many digits spell behind those of a number
abbrev greatest_after : ℕ → List ℕ → ℕ
greatest_after top [] = top
greatest_after top (d ∷ ds) = greatest_after (top * 10 + 9) ds

digit-of : (b : Bool) (x : Option ℕ) (m : ℕ) → (if b then x else None) ≡ Some m → (b ≡ true) × (x ≡ Some m)
digit-of true x m e = (refl, e)
digit-of false x m e = cc e

digit-le : (d : ℕ) → is_ascii_digit d ≡ true → d ≤ 57
digit-le d digit = grind (arith, nat_tests)

spelled : (ds : List ℕ) (n top m : ℕ) → n ≤ top → digits_after n ds ≡ Some m → m ≤ greatest_after top ds
unfolding digits_after
spelled [] n top m le e = let same : n ≡ m = cc e in omega arith
spelled (d ∷ ds) n top m le e =
    let digit = digit-of (is_ascii_digit d) (digits_after (n * 10 + (d - 48)) ds) m e in
    spelled ds (n * 10 + (d - 48)) (top * 10 + 9) m (omega (arith, digit-le d digit.0)) digit.1

three_digits : (ds : List ℕ) (m : ℕ) → length ds ≤ 3 → digits_after 0 ds ≡ Some m → m ≤ 999
three_digits [] m l e = omega (arith, spelled [] 0 0 m (omega arith) e)
three_digits (a ∷ []) m l e = omega (arith, spelled (a ∷ []) 0 0 m (omega arith) e)
three_digits (a ∷ b ∷ []) m l e = omega (arith, spelled (a ∷ b ∷ []) 0 0 m (omega arith) e)
three_digits (a ∷ b ∷ c ∷ []) m l e = spelled (a ∷ b ∷ c ∷ []) 0 0 m (omega arith) e
three_digits (a ∷ b ∷ c ∷ d ∷ ds) m l e = absurd (omega arith)

or_zero : (o : Option ℕ) (top : ℕ) → ((m : ℕ) → o ≡ Some m → m ≤ top) → unwrap_or o 0 ≤ top
or_zero None top f = omega arith
or_zero (Some m) top f = f m refl

sixtieth : (a b : ℕ) → is_sixtieth a b ≡ true → two_digits a b ≤ 59
sixtieth a b e =
    let tens = both (is_ascii_digit a) (nat_lt a 54 && is_ascii_digit b) e in
    let ones = both (nat_lt a 54) (is_ascii_digit b) tens.1 in
    let low : a ≤ 53 = grind (arith, nat_tests, ones.0) in
    omega (arith, digit-le b ones.1)

-- the parts of the test of a time
abbrev ending : List ℕ → Bool
ending text = (from_end text 3 == 58) && is_sixtieth (from_end text 2) (from_end text 1)

abbrev clock : List ℕ → Bool
clock text = (from_end text 6 == 58) && (is_sixtieth (from_end text 5) (from_end text 4) && ending text)

abbrev rest : List ℕ → Bool
rest text = nat_le (length text) 9 && (is_some (hours_in text) && clock text)

timed : (b : Bool) (text : List ℕ) → is_time text ≡ b → time_in text ≤ 3599999
unfolding time_of is_time
timed false text e = rw e (omega arith)
timed true text e =
    let seven = both (nat_le 7 (length text)) (rest text) e in
    let nine = both (nat_le (length text) 9) (is_some (hours_in text) && clock text) seven.1 in
    let hours = both (is_some (hours_in text)) (clock text) nine.1 in
    let colon = both (from_end text 6 == 58) (is_sixtieth (from_end text 5) (from_end text 4) && ending text) hours.1 in
    let minutes = both (is_sixtieth (from_end text 5) (from_end text 4)) (ending text) colon.1 in
    let point = both (from_end text 3 == 58) (is_sixtieth (from_end text 2) (from_end text 1)) minutes.1 in
    let short : length text ≤ 9 = le-of (length text) 9 nine.0 in
    let h : unwrap_or (hours_in text) 0 ≤ 999 =
    or_zero (hours_in text) 999 (λ m. three_digits (take (length text - 6) text) m (omega (arith, length-take (length text - 6) text))) in
    rw e (omega (arith, h, sixtieth (from_end text 5) (from_end text 4) minutes.0, sixtieth (from_end text 2) (from_end text 1) point.1))

-- a time is a second of the service day
pub time_in-le : (text : List ℕ) → time_in text ≤ 3599999
time_in-le text = timed (is_time text) text refl
