-- A day has one day before it, and its trips are not both accepted and refused.
use Rattle.std.proofs.Common.{◌≡◌, ◌∙◌, ℕ, ◌+◌, ◌*◌, ◌<◌, ◌≤◌, List, Bool, Some, sym, ap, arith, inl, inr, pos}
use Rattle.std.proofs.lemmas.Bool.{cases_eq, cases_order}
use Rattle.jiff_core.specs.Calendar.{day_count, days_from_civil, IsCivilDate}
use Rattle.jiff_core.proofs.SignedLemmas.{signed_arith}
use Rattle.jiff_core.proofs.CalendarLemmas.{days_from_civil-day_count, day_count-lt_year, day_count-lt_month, day_count-day}
use Rattle.move_model.specs.declared.network.Trip.{Trip}
use Rattle.gtfs_feed.specs.declared.feed.Feed.{Feed}
use Rattle.service_day.specs.Day.{IsDay, IsDayBefore, first_day, day_number, year_of, month_of, date_of}
use Rattle.service_day.specs.Running.{running}
use Rattle.service_day.specs.DayTrips.{day_trips, refusal_of}
use Rattle.top_call.specs.declared.status.Status.{Status}
use Rattle.top_call.specs.declared.status.Status.TheVariants as status
use Rattle.top_call.specs.Input.{RunBefore, AreDayTrips}
use Rattle.top_call.specs.Rejected.{RejectsDay}

civil-of : (day : ℕ) → IsDay day → IsCivilDate (pos (year_of day)) (month_of day) (date_of day)
civil-of day h = ((omega (arith, signed_arith), omega (arith, signed_arith, h.years)), (h.months.0, h.months.1), (h.dates.0, h.dates.1))

same-count : (y m d z n e : ℕ) → days_from_civil (pos y) m d ≡ days_from_civil (pos z) n e → day_count (pos y) m d ≡ day_count (pos z) n e
same-count y m d z n e same = omega (arith, signed_arith, same, days_from_civil-day_count (pos y) m d, days_from_civil-day_count (pos z) n e)

same-date : (y m d e : ℕ) → 1 ≤ d → 1 ≤ e → d < e → day_count (pos y) m d ≡ day_count (pos y) m e → ⊥
same-date y m d e h k lt same = omega (arith, day_count-day (pos y) m d e h k)

-- dates of one day number do not follow each other
not-later : (y m d z n e : ℕ) → IsCivilDate (pos y) m d → IsCivilDate (pos z) n e → day_count (pos y) m d ≡ day_count (pos z) n e
    → y * 10000 + m * 100 + d < z * 10000 + n * 100 + e → m < 100 → n < 100 → d < 100 → e < 100 → ⊥
not-later y m d z n e c g same less hm hn hd he =
    elim (cases_order y z) [
      | inr (inl lt) ↦ omega (arith, day_count-lt_year (pos y) m d (pos z) n e c g.2.0 (omega (arith, signed_arith)))
      | inr (inr gt) ↦ omega arith
      | inl years ↦ elim (cases_order m n) [
        | inr (inl lt) ↦ omega (arith, day_count-lt_month (pos y) m d n e c g.2.0 lt, rw (← years) at same)
        | inr (inr gt) ↦ omega arith
        | inl months ↦ omega (arith, day_count-day (pos y) m d e c.2.0 g.2.0, rw (← years, ← months) at same)
      ]
    ]

parts-of : (day : ℕ) → day ≡ year_of day * 10000 + month_of day * 100 + date_of day
parts-of day = omega arith

short-parts : (day : ℕ) → (month_of day < 100) × (date_of day < 100)
short-parts day = (omega arith, omega arith)

before-once : (day x y : ℕ) → IsDayBefore x day → IsDayBefore y day → x < y → ⊥
before-once day x y a b less =
    let same : day_number x ≡ day_number y = omega (arith, signed_arith, a.next, b.next) in
    let count = same-count (year_of x) (month_of x) (date_of x) (year_of y) (month_of y) (date_of y) same in
    not-later (year_of x) (month_of x) (date_of x) (year_of y) (month_of y) (date_of y) (civil-of x a.on_calendar) (civil-of y b.on_calendar) count
    (omega (arith, parts-of x, parts-of y)) (short-parts x).0 (short-parts y).0 (short-parts x).1 (short-parts y).1

day-before-once : (day x y : ℕ) → IsDayBefore x day → IsDayBefore y day → x ≡ y
day-before-once day x y a b =
    elim (cases_order x y) [
      | inl same ↦ same
      | inr (inl lt) ↦ absurd (before-once day x y a b lt)
      | inr (inr gt) ↦ absurd (before-once day y x b a gt)
    ]

run-before-once : (date : ℕ) (feed : Feed) (set other : List Bool) → RunBefore date feed set → RunBefore date feed other → set ≡ other
run-before-once date feed set other a b =
    elim (cases_eq date first_day) [
      | inl first ↦ a.of_first first ∙ sym (b.of_first first)
      | inr later ↦ (let x = a.of_later later in
          let y = b.of_later later in
          x.run ∙ ap (λ day. running day feed.services) (day-before-once date x.before y.before x.follows y.follows) ∙ sym y.run)
    ]

pub day_not_both : (date : ℕ) (feed : Feed) (trips : List Trip) (s : Status) → AreDayTrips date feed trips → RejectsDay date feed s → ⊥
day_not_both date feed trips s a r =
    let same = run-before-once date feed a.before r.before a.ran r.ran in
    let none = rw same at a.few in
    let some = r.many in
    cc (none, some)

pub day_rejected_once : (date : ℕ) (feed : Feed) (s t : Status) → RejectsDay date feed s → RejectsDay date feed t → s ≡ t
day_rejected_once date feed s t a b =
    let same = run-before-once date feed a.before b.before a.ran b.ran in
    let left : refusal_of (day_trips feed (running date feed.services) b.before) ≡ Some a.r = rw same at a.many in
    let both : Some a.r ≡ Some b.r = sym left ∙ b.many in
    let one : a.r ≡ b.r = cc both in
    a.told ∙ ap (λ r. status.Refused r) one ∙ sym b.told
