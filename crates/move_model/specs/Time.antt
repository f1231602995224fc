-- Times of the service day as text.
--     digits_after n text    the number whose decimal digits follow those of n, or None where a byte is no digit
--     time_of text           the second that HH:MM:SS names, with one to three digits of hours, or None
--     time_text second       HH:MM:SS, with two digits of hours or more
use Rattle.std.specs.Prelude.{◌+◌, ◌-◌, ◌*◌, ◌/◌, ◌%◌, ◌==◌, ◌&&◌, ◌++◌, ℕ, Bool, List, [], ◌∷◌, length, take, slice_index, decimal, nat_lt, nat_le, unwrap_or, is_some, if◌then◌else◌, Option, Some, None}
use Rattle.std.specs.Char.{is_ascii_digit}

unfoldable pub digits_after : ℕ → List ℕ → Option ℕ
digits_after n [] = Some n
digits_after n (d ∷ ds) = if is_ascii_digit d then digits_after (n * 10 + (d - 48)) ds else None

-- the byte that stands at a place counted from the end, where 1 is the last
abbrev pub from_end : List ℕ → ℕ → ℕ
from_end text k = slice_index text (length text - k)

-- two digits, 00 to 59
abbrev pub is_sixtieth : ℕ → ℕ → Bool
is_sixtieth tens ones = is_ascii_digit tens && (nat_lt tens 54 && is_ascii_digit ones)

abbrev pub two_digits : ℕ → ℕ → ℕ
two_digits tens ones = 10 * (tens - 48) + (ones - 48)

-- what stands before the last six bytes
abbrev pub hours_in : List ℕ → Option ℕ
hours_in text = digits_after 0 (take (length text - 6) text)

-- one to three digits, a colon, two digits, a colon, two digits
unfoldable pub is_time : List ℕ → Bool
is_time text =
    nat_le 7 (length text) && (nat_le (length text) 9 && (is_some (hours_in text)
    && ((from_end text 6 == 58) && (is_sixtieth (from_end text 5) (from_end text 4)
    && ((from_end text 3 == 58) && is_sixtieth (from_end text 2) (from_end text 1))))))

unfoldable pub time_of : List ℕ → Option ℕ
time_of text =
    if is_time text
    then Some (3600 * unwrap_or (hours_in text) 0 + 60 * two_digits (from_end text 5) (from_end text 4) + two_digits (from_end text 2) (from_end text 1))
    else None

-- a number below 100 with two digits
abbrev pub padded : ℕ → List ℕ
padded n = (48 + n / 10) ∷ (48 + n % 10) ∷ []

-- two digits of hours, or as many as there are
abbrev pub hours_text : ℕ → List ℕ
hours_text hours = if nat_lt hours 10 then padded hours else decimal hours

unfoldable pub time_text : ℕ → List ℕ
time_text second = hours_text (second / 3600) ++ 58 ∷ padded (second / 60 % 60) ++ 58 ∷ padded (second % 60)
