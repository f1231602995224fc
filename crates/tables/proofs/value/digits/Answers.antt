use Rattle.std.proofs.Common.{◌≡◌, ◌∙◌, ◌+◌, ◌*◌, ◌-◌, ◌^◌, true, false, ap, sym, refl, get_or, rules, arith}
use Rattle.std.specs.Char.{is_ascii_digit}
use Rattle.tables.specs.Values.{below}
use Rattle.tables.proofs.Digits.{step, stop, too_great, whole}
use Rattle.tables.proofs.value.digits.Goals as goal

pub returns-then-not-is_ascii_digit : goal.returns-then-not-is_ascii_digit
returns-then-not-is_ascii_digit c =
    let digit : is_ascii_digit (get_or c.args.text.now c.loop-digit.digit-index 0) ≡ false = search rules in
    sym (ap (below (2 ^ 64)) (sym c.loop-digit.invariant.so_far ∙ stop _ _ _ c.loop-digit-test.true digit))

pub returns-in_default : goal.returns-in_default
returns-in_default c =
    let digit : is_ascii_digit (get_or c.args.text.now c.loop-digit.digit-index 0) ≡ true = search rules in
    too_great _ _ _ (c.loop-digit.value * 10 + (get_or c.args.text.now c.loop-digit.digit-index 0 - 48)) c.loop-digit-test.true digit c.loop-digit.invariant.so_far refl (omega (arith, c.in_default.ensures))

pub returns-in_default-checked_add : goal.returns-in_default-checked_add
returns-in_default-checked_add c =
    let digit : is_ascii_digit (get_or c.args.text.now c.loop-digit.digit-index 0) ≡ true = search rules in
    too_great _ _ _ (c.loop-digit.value * 10 + (get_or c.args.text.now c.loop-digit.digit-index 0 - 48)) c.loop-digit-test.true digit c.loop-digit.invariant.so_far refl
    (omega (arith, c.in_default-checked_add.ensures, c.in-Some.ensures, c.from.ensures))

pub loop-digit-preserved : goal.loop-digit-preserved
loop-digit-preserved c =
    let digit : is_ascii_digit (get_or c.args.text.now c.loop-digit.digit-index 0) ≡ true = search rules in
    let next : c.in-Some-checked_add.next ≡ c.loop-digit.value * 10 + (get_or c.args.text.now c.loop-digit.digit-index 0 - 48) = omega (arith, c.in-Some-checked_add.ensures, c.in-Some.ensures, c.from.ensures) in
    record {
      so_far = rw (next, ← step c.args.text.now c.loop-digit.digit-index c.loop-digit.value c.loop-digit-test.true digit) c.loop-digit.invariant.so_far;
      fits = omega (arith, c.in-Some-checked_add.ensures);
    }

pub returns : goal.returns
returns c = whole _ _ _ c.loop-digit-test.false c.loop-digit.invariant.so_far c.loop-digit.invariant.fits
