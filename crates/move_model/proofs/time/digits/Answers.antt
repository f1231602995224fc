use Rattle.std.proofs.Common.{◌≡◌, ◌∙◌, ◌-◌, ◌≤◌, true, false, sym, get_or, rules, arith}
use Rattle.std.specs.Char.{is_ascii_digit}
use Rattle.move_model.proofs.DigitLemmas.{digits_after-digit, digits_after-other, digits_after-end, digit-below}
use Rattle.move_model.proofs.time.digits.Goals as goal

pub returns-then-not-is_ascii_digit-clause-value : goal.returns-then-not-is_ascii_digit-clause-value
returns-then-not-is_ascii_digit-clause-value c =
    let other : is_ascii_digit (get_or c.args.text.now c.loop-digit.digit-index 0) ≡ false = search rules in
    sym (sym c.loop-digit.invariant.so_far ∙ digits_after-other _ _ _ c.loop-digit-test.true other)

pub loop-digit-preserved : goal.loop-digit-preserved
loop-digit-preserved c =
    let digit : is_ascii_digit (get_or c.args.text.now c.loop-digit.digit-index 0) ≡ true = search rules in
    let low : get_or c.args.text.now c.loop-digit.digit-index 0 ≤ 57 = digit-below _ digit in
    let added : c.from.result ≡ get_or c.args.text.now c.loop-digit.digit-index 0 - 48 = search rules in
    record {
      so_far = rw (added, ← digits_after-digit c.args.text.now c.loop-digit.digit-index c.loop-digit.value c.loop-digit-test.true digit) c.loop-digit.invariant.so_far;
      none = λ h. omega arith;
      one = λ h. omega arith;
      two = λ h. omega arith;
      three = λ h. omega arith;
    }

pub returns-clause-value : goal.returns-clause-value
returns-clause-value c = sym (digits_after-end _ _ _ c.loop-digit-test.false) ∙ c.loop-digit.invariant.so_far
