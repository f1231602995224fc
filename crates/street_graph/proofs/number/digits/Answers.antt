use Rattle.std.proofs.Common.{◌≡◌, ◌^◌, true, false, get_or, rules, arith}
use Rattle.std.specs.Char.{is_ascii_digit}
use Rattle.street_graph.proofs.NumberLemmas.{stray, too_great, whole, digit_value_is}
use Rattle.street_graph.proofs.number.digits.Goals as goal

pub returns-then-not-is_ascii_digit : goal.returns-then-not-is_ascii_digit
returns-then-not-is_ascii_digit c =
    let digit : is_ascii_digit (get_or c.args.text.now c.loop-digit.digit-index 0) ≡ false = search rules in
    stray (2 ^ 64) c.args.text.now c.loop-digit.digit-index c.loop-digit-test.true c.loop-digit.invariant.digits digit

pub returns-in_default : goal.returns-in_default
returns-in_default c =
    too_great (2 ^ 64) c.args.text.now c.loop-digit.digit-index c.loop-digit.value c.loop-digit-test.true c.loop-digit.invariant.so_far
    (omega (arith, c.in_default.ensures))

pub returns-in_default-checked_add : goal.returns-in_default-checked_add
returns-in_default-checked_add c =
    let digit : is_ascii_digit (get_or c.args.text.now c.loop-digit.digit-index 0) ≡ true = search rules in
    too_great (2 ^ 64) c.args.text.now c.loop-digit.digit-index c.loop-digit.value c.loop-digit-test.true c.loop-digit.invariant.so_far
    (omega (arith, digit_value_is (get_or c.args.text.now c.loop-digit.digit-index 0) digit, c.in_default-checked_add.ensures, c.in-Some.ensures, c.from.ensures))

pub returns : goal.returns
returns c = whole (2 ^ 64) c.args.text.now c.loop-digit.digit-index c.loop-digit.value c.loop-digit-test.false c.loop-digit.invariant.so_far c.loop-digit.invariant.digits c.loop-digit.invariant.fits
