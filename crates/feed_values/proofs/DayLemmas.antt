-- The parts of the number of a day.
use Rattle.std.proofs.Common.{◌≡◌, ◌<◌, ◌≤◌, ◌+◌, ◌*◌, ◌/◌, ◌%◌, ℕ, ℤ, pos, true, arith}
use Rattle.std.proofs.lemmas.Bool.Decides.{nat_tests}
use Rattle.jiff.specs.Words.{days_in_month}
use Rattle.feed_values.specs.Date.{is_date, IsDay}
use Rattle.feed_values.proofs.DateLemmas.{decides}

pub is-day : (y m d day : ℕ) → y ≤ 9999 → m < 100 → d < 100 → day ≡ y * 10000 + m * 100 + d → is_date y m d ≡ true → IsDay day
is-day y m d day years months days value date =
    let facts = (decides y m d).0 date in
    let year : day / 10000 ≡ y = omega arith in
    let month : day / 100 % 100 ≡ m = omega arith in
    let of_month : day % 100 ≡ d = omega arith in
    record {
      years = rw year years;
      months = rw month (facts.0.0.0, facts.0.0.1);
      dates = rw (of_month, year, month) (facts.0.1, facts.1);
    }
