-- A day of the calendar, as a test and as what `jiff` says of it.
use Rattle.std.proofs.Common.{◌≡◌, ◌∙◌, ◌<◌, ◌≤◌, ℕ, ℤ, pos, ◌≤ℤ◌, Bool, true, false, ◌↔◌, IsTrue, w8, w16, sym, refl, ap, arith}
use Rattle.std.proofs.lemmas.Int.{to_z_pos, ints}
use Rattle.std.proofs.lemmas.Bool.Decides.{Decides-and, same_from_decides, nat_tests}
use Rattle.std.specs.Bool.{Decides}
use Rattle.std.specs.Prelude.{nat_le, ◌&&◌}
use Rattle.jiff.specs.Words.{IsDate, days_in_month}
use Rattle.feed_values.specs.Date.{is_date}

at-most : (a b : ℕ) → Decides (nat_le a b) (a ≤ b)
at-most a b = (λ e. grind (arith, nat_tests), λ h. grind (arith, nat_tests))

pub decides : (y m d : ℕ) → Decides (is_date y m d) ((((1 ≤ m) × (m ≤ 12)) × (1 ≤ d)) × (d ≤ days_in_month (pos y) m))
unfolding is_date
decides y m d = Decides-and _ _ (Decides-and _ _ (Decides-and _ _ (at-most 1 m) (at-most m 12)) (at-most 1 d)) (at-most d (days_in_month (pos y) m))

pub same : (r : Bool) (y m d : ℕ) (a b c : ℤ) → a ≡ pos y → b ≡ pos m → c ≡ pos d → y ≤ 9999
    → ((r ≡ true → IsDate a b c) × (IsDate a b c → r ≡ true)) → r ≡ is_date y m d
same r y m d a b c ya mb dc limit h =
    let there : IsDate (pos y) (pos m) (pos d) → r ≡ true = rw (ya, mb, dc) at h.1 in
    let back : r ≡ true → IsDate (pos y) (pos m) (pos d) = rw (ya, mb, dc) at h.0 in
    same_from_decides r (is_date y m d) (
      λ e. let p = back e in (((omega (arith, ints, p.1.0), omega (arith, ints, p.1.1)), omega (arith, ints, p.2.0)), omega (arith, ints, p.2.1)),
      λ p. there ((omega (arith, ints), omega (arith, ints)), (omega (arith, ints, p.0.0.0), omega (arith, ints, p.0.0.1)), (omega (arith, ints, p.0.1), omega (arith, ints, p.1))),
    ) (decides y m d)
