-- Dates of the calendar, and the days that they are as numbers.
use Rattle.std.proofs.Common.{◌≡◌, ◌≢◌, ℕ, ◌+◌, ◌*◌, ◌<◌, inl, inr, sym, ap, arith, pos, neg_ℤ, ◌-ℤ◌, ◌<ℤ◌, unsigned_abs}
use Rattle.std.proofs.lemmas.Bool.{cases_order}
use Rattle.jiff_core.specs.declared.civil.date.Date.{Date}
use Rattle.jiff_core.specs.Calendar.{day_count, days_from_civil, IsCivilDate}
use Rattle.jiff_core.specs.Date.{epoch_day, IsYmd}
use Rattle.jiff_core.proofs.SignedLemmas.{signed_arith}
use Rattle.jiff_core.proofs.CalendarLemmas.{days_from_civil-day_count, day_count-lt_year, day_count-lt_month, day_count-day, days_in_month_bounds}
use Rattle.jiff_core.proofs.DateLemmas.{civil, min-lt-epoch_day}
use Rattle.service_day.specs.Day.{IsDay, IsDayBefore, year_of, month_of, date_of}

abbrev HasParts : Date → ℕ → ℕ → ℕ → Type 0
HasParts d y m n = (d.year ≡ pos y) × (d.month ≡ m) × (d.day ≡ n)

-- a date that jiff says to have the parts of a day
pub has_parts : (day : ℕ) (d : Date) → IsYmd (pos (year_of day)) (pos (month_of day)) (pos (date_of day)) d → HasParts d (year_of day) (month_of day) (date_of day)
has_parts day d h = (h.0, ap unsigned_abs h.1, ap unsigned_abs h.2)

pub epoch_day-parts : (d : Date) (y m n : ℕ) → HasParts d y m n → epoch_day d ≡ days_from_civil (pos y) m n
epoch_day-parts d y m n h = rw (h.0, h.1, h.2)

year-of : (y m n : ℕ) → m < 100 → n < 100 → year_of (y * 10000 + m * 100 + n) ≡ y
year-of y m n hm hn = omega arith

month-of : (y m n : ℕ) → m < 100 → n < 100 → month_of (y * 10000 + m * 100 + n) ≡ m
month-of y m n hm hn = omega arith

date-of : (y m n : ℕ) → m < 100 → n < 100 → date_of (y * 10000 + m * 100 + n) ≡ n
date-of y m n hm hn = omega arith

-- the parts of a date of a year from 0, as one number
is_day : (d : Date) (y m n : ℕ) → HasParts d y m n → IsDay (y * 10000 + m * 100 + n)
is_day d y m n h =
    let c : IsCivilDate (pos y) m n = rw (h.0, h.1, h.2) at (civil d) in
    let short = days_in_month_bounds (pos y) m in
    let hm : m < 100 = omega (arith, c.1.1) in
    let hn : n < 100 = omega (arith, c.2.1, short.0) in
    let ey = year-of y m n hm hn in
    let em = month-of y m n hm hn in
    let en = date-of y m n hm hn in
    record {
      years = rw ey (omega (arith, signed_arith, c.0.1));
      months = rw em (c.1.0, c.1.1);
      dates = rw (ey, em, en) (c.2.0, c.2.1);
    }

-- the date before a day is the day before
pub is_day_before : (day : ℕ) (d b : Date) (y m n : ℕ) → IsYmd (pos (year_of day)) (pos (month_of day)) (pos (date_of day)) d
    → epoch_day b ≡ epoch_day d -ℤ pos 1 → HasParts b y m n → IsDayBefore (y * 10000 + m * 100 + n) day
is_day_before day d b y m n h e parts =
    let c : IsCivilDate (pos y) m n = rw (parts.0, parts.1, parts.2) at (civil b) in
    let short = days_in_month_bounds (pos y) m in
    let hm : m < 100 = omega (arith, c.1.1) in
    let hn : n < 100 = omega (arith, c.2.1, short.0) in
    let there = epoch_day-parts d _ _ _ (has_parts day d h) in
    let back = epoch_day-parts b _ _ _ parts in
    record {
      on_calendar = is_day b y m n parts;
      next = rw (year-of y m n hm hn, month-of y m n hm hn, date-of y m n hm hn) (omega (arith, signed_arith, there, back, e));
    }

-- a day but the first of the year 0 has more days before it
count_above : (y m n : ℕ) → IsCivilDate (pos y) m n → (¬ ((y ≡ 0) × (m ≡ 1) × (n ≡ 1))) → day_count (pos 0) 1 1 < day_count (pos y) m n
count_above y m n c later =
    let first : IsCivilDate (pos 0) 1 1 = ((omega (arith, signed_arith), omega (arith, signed_arith)), (omega arith, omega arith), (omega arith, omega arith)) in
    elim (cases_order 0 y) [
      | inr (inl lt) ↦ day_count-lt_year (pos 0) 1 1 (pos y) m n first c.2.0 (omega (arith, signed_arith))
      | inl zero ↦ rw (← zero) (elim (cases_order 1 m) [
        | inr (inl lt) ↦ day_count-lt_month (pos 0) 1 1 m n first c.2.0 lt
        | inl one ↦ rw (← one) (elim (cases_order 1 n) [
          | inr (inl lt) ↦ omega (arith, day_count-day (pos 0) 1 1 n (omega arith) c.2.0)
          | inl same ↦ absurd (later (sym zero, sym one, sym same))
          | inr (inr gt) ↦ absurd (omega (arith, c.2.0))
        ])
        | inr (inr gt) ↦ absurd (omega (arith, c.1.0))
      ])
      | inr (inr gt) ↦ absurd (omega arith)
    ]

-- the date before a day is of a year from 0, unless the day is the first
pub year_from_zero : (day : ℕ) (d b : Date) → day ≢ 101 → IsYmd (pos (year_of day)) (pos (month_of day)) (pos (date_of day)) d
    → epoch_day b ≡ epoch_day d -ℤ pos 1 → b.year <ℤ pos 0 → ⊥
year_from_zero day d b later h e neg =
    let parts = has_parts day d h in
    let c : IsCivilDate (pos (year_of day)) (month_of day) (date_of day) = rw (parts.0, parts.1, parts.2) at (civil d) in
    let there = epoch_day-parts d _ _ _ parts in
    let above = count_above _ _ _ c (λ p. later (omega (arith, p.0, p.1, p.2))) in
    let below = day_count-lt_year b.year b.month b.day (pos 0) 1 1 (civil b) (omega arith) neg in
    omega (arith, signed_arith, there, e, above, below, days_from_civil-day_count b.year b.month b.day, days_from_civil-day_count (pos (year_of day)) (month_of day) (date_of day))

-- and has a date before it
pub has_yesterday : (day : ℕ) (d : Date) → IsYmd (pos (year_of day)) (pos (month_of day)) (pos (date_of day)) d → neg_ℤ (pos 4_371_587) <ℤ epoch_day d
has_yesterday day d h = min-lt-epoch_day d (λ p. omega (arith, signed_arith, h.0, p.0))
