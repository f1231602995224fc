-- How the number of a text grows by its digits.
use Rattle.std.proofs.Common.{◌≡◌, ◌∙◌, ◌+◌, ◌-◌, ◌*◌, ◌<◌, ◌≤◌, ℕ, Bool, true, false, List, [], ◌∷◌, length, drop, get_or, Some, None, refl, sym, ap, arith}
use Rattle.std.specs.Prelude.{◌&&◌, nat_lt}
use Rattle.std.specs.Char.{is_ascii_digit, digit_value}
use Rattle.std.specs.Str.{all_ascii_digits}
use Rattle.std.specs.Str.Parse.{digits_value, digits_value_after}
use Rattle.std.proofs.lemmas.List.{drop_more, drop_all}
use Rattle.std.proofs.lemmas.Bool.Decides.{nat_tests}
use Rattle.street_graph.specs.Text.{value_below}

no-value : (bound : ℕ) (text : List ℕ) (digits less : Bool) → all_ascii_digits text ≡ digits → nat_lt (digits_value 10 text) bound ≡ less
    → (digits && less) ≡ false → None ≡ value_below bound text
unfolding value_below
no-value bound text digits less d l e = rw (d, l, e) refl

and-false : (b : Bool) → (b && false) ≡ false
and-false true = refl
and-false false = refl

-- a byte that is no digit leaves no number
pub stray : (bound : ℕ) (text : List ℕ) (i : ℕ) → i < length text → all_ascii_digits (drop i text) ≡ all_ascii_digits text
    → is_ascii_digit (get_or text i 0) ≡ false → None ≡ value_below bound text
stray bound text i lt digits e =
    let here : all_ascii_digits (drop i text) ≡ (is_ascii_digit (get_or text i 0) && all_ascii_digits (drop (i + 1) text)) = ap all_ascii_digits (drop_more text i 0 lt) in
    let none : all_ascii_digits text ≡ false = sym digits ∙ here ∙ ap (λ b. b && all_ascii_digits (drop (i + 1) text)) e in
    no-value bound text false (nat_lt (digits_value 10 text) bound) none refl refl

grows : (ds : List ℕ) (n : ℕ) → n ≤ digits_value_after 10 n ds
grows [] n = omega arith
grows (d ∷ ds) n = omega (arith, grows ds (n * 10 + digit_value d))

-- a number that is too great stays so
pub too_great : (bound : ℕ) (text : List ℕ) (i n : ℕ) → i < length text → digits_value_after 10 n (drop i text) ≡ digits_value 10 text
    → bound ≤ n * 10 + digit_value (get_or text i 0) → None ≡ value_below bound text
too_great bound text i n lt so_far great =
    let here : digits_value_after 10 n (drop i text) ≡ digits_value_after 10 (n * 10 + digit_value (get_or text i 0)) (drop (i + 1) text) = ap (digits_value_after 10 n) (drop_more text i 0 lt) in
    let more = grows (drop (i + 1) text) (n * 10 + digit_value (get_or text i 0)) in
    let no : nat_lt (digits_value 10 text) bound ≡ false = grind (arith, nat_tests) in
    no-value bound text (all_ascii_digits text) false refl no (and-false (all_ascii_digits text))

-- the number at the end of the digits
pub whole : (bound : ℕ) (text : List ℕ) (i n : ℕ) → length text ≤ i → digits_value_after 10 n (drop i text) ≡ digits_value 10 text
    → all_ascii_digits (drop i text) ≡ all_ascii_digits text → n < bound → Some n ≡ value_below bound text
unfolding value_below
whole bound text i n end so_far digits fits =
    let none : drop i text ≡ [] = drop_all i text end in
    let value : n ≡ digits_value 10 text = ap (digits_value_after 10 n) (sym none) ∙ so_far in
    let all : all_ascii_digits text ≡ true = sym digits ∙ ap all_ascii_digits none in
    let yes : nat_lt n bound ≡ true = grind (arith, nat_tests) in
    rw (all, ← value, yes) refl

-- the value of a digit
pub digit_value_is : (c : ℕ) → is_ascii_digit c ≡ true → digit_value c ≡ c - 48
digit_value_is c e = grind (arith, nat_tests)
