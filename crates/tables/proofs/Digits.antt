-- How a number grows by its digits.
use Rattle.std.proofs.Common.{◌≡◌, ◌+◌, ◌-◌, ◌*◌, ◌^◌, ◌<◌, ◌≤◌, ℕ, List, [], ◌∷◌, length, drop, get_or, Option, Some, None, Bool, true, false, refl, sym, arith}
use Rattle.std.specs.Prelude.{nat_lt, if◌then◌else◌}
use Rattle.std.specs.Char.{is_ascii_digit}
use Rattle.std.proofs.lemmas.List.{drop_more, drop_all}
use Rattle.move_model.specs.Time.{digits_after}
use Rattle.tables.specs.Values.{below}

pub step : (text : List ℕ) (i v : ℕ) → i < length text → is_ascii_digit (get_or text i 0) ≡ true
    → digits_after v (drop i text) ≡ digits_after (v * 10 + (get_or text i 0 - 48)) (drop (i + 1) text)
unfolding digits_after
step text i v lt digit = rw (drop_more text i 0 lt, digit) refl

pub stop : (text : List ℕ) (i v : ℕ) → i < length text → is_ascii_digit (get_or text i 0) ≡ false
    → digits_after v (drop i text) ≡ None
unfolding digits_after
stop text i v lt digit = rw (drop_more text i 0 lt, digit) refl

choose : (b : Bool) (x y : Option ℕ) → below (2 ^ 64) x ≡ None → below (2 ^ 64) y ≡ None → below (2 ^ 64) (if b then x else y) ≡ None
choose true x y f g = f
choose false x y f g = g

-- a number that is too great stays so
pub great : (ds : List ℕ) (v : ℕ) → 2 ^ 64 ≤ v → below (2 ^ 64) (digits_after v ds) ≡ None
unfolding digits_after
great [] v h = let no : nat_lt v (2 ^ 64) ≡ false = grind arith in rw no refl
great (d ∷ ds) v h = choose (is_ascii_digit d) (digits_after (v * 10 + (d - 48)) ds) None (great ds (v * 10 + (d - 48)) (omega arith)) refl

-- where the next number is too great, the whole is
pub too_great : (text : List ℕ) (i v n : ℕ) → i < length text → is_ascii_digit (get_or text i 0) ≡ true
    → digits_after v (drop i text) ≡ digits_after 0 text → n ≡ v * 10 + (get_or text i 0 - 48) → 2 ^ 64 ≤ n
    → None ≡ below (2 ^ 64) (digits_after 0 text)
too_great text i v n lt digit so_far next h =
    rw (← so_far, step text i v lt digit, ← next) (sym (great (drop (i + 1) text) n h))

-- the number at the end of the digits
pub whole : (text : List ℕ) (i v : ℕ) → length text ≤ i → digits_after v (drop i text) ≡ digits_after 0 text → v < 2 ^ 64
    → Some v ≡ below (2 ^ 64) (digits_after 0 text)
unfolding digits_after
whole text i v end so_far fits =
    let none : drop i text ≡ [] = drop_all i text end in
    let yes : nat_lt v (2 ^ 64) ≡ true = grind arith in
    rw (← so_far, none, yes) refl
