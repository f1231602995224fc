-- How a number grows by its digits.
use Rattle.std.proofs.Common.{◌≡◌, ◌+◌, ◌-◌, ◌*◌, ◌<◌, ◌≤◌, ℕ, List, length, drop, get_or, Some, None, true, false, refl, arith}
use Rattle.std.specs.Char.{is_ascii_digit}
use Rattle.std.proofs.lemmas.List.{drop_more, drop_all}
use Rattle.std.proofs.lemmas.Bool.Decides.{nat_tests}
use Rattle.move_model.specs.Time.{digits_after}

pub digits_after-digit : (text : List ℕ) (i v : ℕ) → i < length text → is_ascii_digit (get_or text i 0) ≡ true
    → digits_after v (drop i text) ≡ digits_after (v * 10 + (get_or text i 0 - 48)) (drop (i + 1) text)
unfolding digits_after
digits_after-digit text i v within digit = rw (drop_more text i 0 within, digit) refl

pub digits_after-other : (text : List ℕ) (i v : ℕ) → i < length text → is_ascii_digit (get_or text i 0) ≡ false
    → digits_after v (drop i text) ≡ None
unfolding digits_after
digits_after-other text i v within other = rw (drop_more text i 0 within, other) refl

pub digits_after-end : (text : List ℕ) (i v : ℕ) → length text ≤ i → digits_after v (drop i text) ≡ Some v
unfolding digits_after
digits_after-end text i v end = rw (drop_all i text end) refl

-- a digit is one of ten bytes
pub digit-below : (d : ℕ) → is_ascii_digit d ≡ true → d ≤ 57
digit-below d digit = grind (arith, nat_tests)
