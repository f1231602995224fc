-- Latitudes and longitudes: decimal degrees, read as millionths of a degree.
--     is_decimal text                digits with at most one point, and at least one digit
--     millionths text                the millionths that such a text spells, without digits after the sixth decimal
--     coordinate_of degrees text     the millionths of a coordinate of at most so many degrees either sign, or None
use Rattle.std.specs.Prelude.{ℕ, ◌+◌, ◌-◌, ◌*◌, ◌++◌, ◌==◌, ◌&&◌, ◌||◌, Bool, true, false, List, [], ◌∷◌, length, take, replicate, Option, Some, None, nat_lt, nat_le, if◌then◌else◌, ℤ, pos, neg_ℤ}
use Rattle.std.specs.List.{list_all, before_first, after_first}
use Rattle.std.specs.Char.{is_ascii_digit}

-- the number that decimal digits spell behind a number
unfoldable pub digits_after : ℕ → List ℕ → ℕ
digits_after number [] = number
digits_after number (digit ∷ digits) = digits_after (number * 10 + (digit - 48)) digits

-- the first byte is `-`
abbrev pub is_minus : List ℕ → Bool
is_minus [] = false
is_minus (c ∷ cs) = c == 45

-- what stands behind a first byte `+` or `-`
abbrev pub without_sign : List ℕ → List ℕ
without_sign [] = []
without_sign (c ∷ cs) = if (c == 45) || (c == 43) then cs else c ∷ cs

abbrev pub is_point : ℕ → Bool
is_point c = c == 46

-- what stands before the first point, and behind it
unfoldable pub whole_digits : List ℕ → List ℕ
whole_digits text = before_first is_point text

unfoldable pub decimals : List ℕ → List ℕ
decimals text = after_first is_point text

unfoldable pub is_decimal : List ℕ → Bool
is_decimal text = list_all is_ascii_digit (whole_digits text) && list_all is_ascii_digit (decimals text)
    && nat_lt 0 (length (whole_digits text) + length (decimals text))

-- the first six decimals, where missing ones count as 0
unfoldable pub six_digits : List ℕ → List ℕ
six_digits digits = take 6 (digits ++ replicate 6 48)

unfoldable pub millionths : List ℕ → ℕ
millionths text = digits_after 0 (whole_digits text ++ six_digits (decimals text))

abbrev pub with_sign : Bool → ℕ → ℤ
with_sign true number = neg_ℤ (pos number)
with_sign false number = pos number

-- at most 40 bytes, an optional sign, a decimal number, and at most so many degrees
unfoldable pub coordinate_of : ℕ → List ℕ → Option ℤ
coordinate_of degrees text =
    if nat_le (length text) 40 && is_decimal (without_sign text) && nat_le (millionths (without_sign text)) (degrees * 1000000)
    then Some (with_sign (is_minus text) (millionths (without_sign text)))
    else None
