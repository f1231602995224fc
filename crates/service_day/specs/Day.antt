-- Days of the Gregorian calendar, as numbers of the form YYYYMMDD.
--     IsDay day                  the calendar has this day of a year from 0 to 9999
--     first_day                  1 January of the year 0
--     day_number day             the days since 1 January 1970
--     weekday_of day             0 for Monday to 6 for Sunday
--     IsDayBefore before day     the day follows the one before
use Rattle.std.specs.Prelude.{◌≡◌, ℕ, ◌/◌, ◌%◌, ◌≤◌, ℤ, pos, ◌+ℤ◌}
use Rattle.jiff_core.specs.Calendar.{days_in_month, days_from_civil, weekday_number}

abbrev pub year_of : ℕ → ℕ
year_of day = day / 10000

abbrev pub month_of : ℕ → ℕ
month_of day = day / 100 % 100

abbrev pub date_of : ℕ → ℕ
date_of day = day % 100

pub record IsDay (day : ℕ) : Type 0 where
  pub years : year_of day ≤ 9999
  pub months : (1 ≤ month_of day) × (month_of day ≤ 12)
  pub dates : (1 ≤ date_of day) × (date_of day ≤ days_in_month (pos (year_of day)) (month_of day))

abbrev pub first_day : ℕ
first_day = 101

abbrev pub day_number : ℕ → ℤ
day_number day = days_from_civil (pos (year_of day)) (month_of day) (date_of day)

abbrev pub weekday_of : ℕ → ℕ
weekday_of day = weekday_number (day_number day)

pub record IsDayBefore (before day : ℕ) : Type 0 where
  pub on_calendar : IsDay before
  pub next : day_number before +ℤ pos 1 ≡ day_number day
