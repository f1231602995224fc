-- Service days: dates of the form YYYYMMDD of the Gregorian calendar.
--     is_date year month day     the calendar has this day
--     IsDay day                  the number YYYYMMDD is a day of the calendar
--     date_of text               the number YYYYMMDD that a text spells, where it is a date, or None
use Rattle.std.specs.Prelude.{ℕ, ◌+◌, ◌-◌, ◌*◌, ◌/◌, ◌%◌, ◌≤◌, ◌==◌, ◌&&◌, Bool, List, [], ◌∷◌, length, get_or, Option, Some, None, option_and_then, nat_le, if◌then◌else◌, pos}
use Rattle.std.specs.Char.{is_ascii_digit}
use Rattle.jiff.specs.Words.{days_in_month}

-- two digits that stand at a place, as a number
unfoldable pub number_at : List ℕ → ℕ → Option ℕ
number_at text at =
    if is_ascii_digit (get_or text at 0) && is_ascii_digit (get_or text (at + 1) 0)
    then Some ((get_or text at 0 - 48) * 10 + (get_or text (at + 1) 0 - 48))
    else None

-- the month has this day
unfoldable pub is_date : ℕ → ℕ → ℕ → Bool
is_date year month day = nat_le 1 month && nat_le month 12 && nat_le 1 day && nat_le day (days_in_month (pos year) month)

-- of a year from 0 to 9999
pub record IsDay (day : ℕ) : Type 0 where
  pub years : day / 10000 ≤ 9999
  pub months : (1 ≤ day / 100 % 100) × (day / 100 % 100 ≤ 12)
  pub dates : (1 ≤ day % 100) × (day % 100 ≤ days_in_month (pos (day / 10000)) (day / 100 % 100))

infixl 10 ◌>>=◌
abbrev ◌>>=◌ : {A B : Type 0} → Option A → (A → Option B) → Option B
o >>= f = option_and_then f o

-- four digits of the year, two of the month and two of the day
unfoldable pub date_of : List ℕ → Option ℕ
date_of text =
    if length text == 8 then (do
      century ← number_at text 0
      year ← number_at text 2
      month ← number_at text 4
      day ← number_at text 6
      if is_date (century * 100 + year) month day then Some ((century * 100 + year) * 10000 + month * 100 + day) else None)
    else None
