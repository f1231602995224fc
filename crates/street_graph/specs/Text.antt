-- Fields of a line, and numbers in decimal digits. The lines of a text are those of Rust's `str::lines`.
--     is_blank b         b is a space or a tab
--     fields line        what stands between the blanks of the line
--     number_of text     the number that 1 to 20 decimal digits spell, where it is below 2 ^ 64
use Rattle.std.specs.Prelude.{◌≡◌, [], ◌∷◌, ◌==◌, ◌||◌, ◌&&◌, ◌^◌, ℕ, Bool, true, false, List, length, filter, Option, Some, None, nat_lt, nat_le, if◌then◌else◌}
use Rattle.std.specs.List.{slice_split}
use Rattle.std.specs.Str.{all_ascii_digits, bytes_eq}
use Rattle.std.specs.Str.Parse.{digits_value}

abbrev pub is_blank : ℕ → Bool
is_blank b = b == 32 || b == 9

-- the pieces between blanks that have a byte
unfoldable pub fields : List ℕ → List (List ℕ)
fields line = filter (λ piece. nat_lt 0 (length piece)) (slice_split is_blank line)

-- the value of digits, where it is below the bound
unfoldable pub value_below : ℕ → List ℕ → Option ℕ
value_below bound text =
    if all_ascii_digits text && nat_lt (digits_value 10 text) bound then Some (digits_value 10 text) else None

unfoldable pub number_of : List ℕ → Option ℕ
number_of text = if nat_lt 0 (length text) && nat_le (length text) 20 then value_below (2 ^ 64) text else None

-- the number of the first field, if there is a field and it is a number
abbrev pub first_number : List (List ℕ) → Option ℕ
first_number [] = None
first_number (field ∷ more) = number_of field

-- the first field is this number, and these are the fields behind it
pub record BeginsWithNumber (all : List (List ℕ)) (n : ℕ) (rest : List (List ℕ)) : Type 0 where
  pub field : List ℕ
  pub splits : all ≡ field ∷ rest
  pub value : number_of field ≡ Some n

-- the first field, if there is one, is this word
abbrev pub first_is : List (List ℕ) → List ℕ → Bool
first_is [] word = false
first_is (field ∷ more) word = bytes_eq field word

-- the first field is this word, and these are the fields behind it
pub record BeginsWithWord (all : List (List ℕ)) (word : List ℕ) (rest : List (List ℕ)) : Type 0 where
  pub field : List ℕ
  pub splits : all ≡ field ∷ rest
  pub same : bytes_eq field word ≡ true
