use Rattle.std.proofs.Common.{◌≡◌, ◌∙◌, ◌+◌, ◌*◌, ◌-◌, sym, refl, drop, get_or, arith, ap}
use Rattle.feed_values.specs.Coordinate.{digits_after}
use Rattle.feed_values.proofs.DigitLemmas.{too_great, at_end, step}
use Rattle.feed_values.proofs.coordinates.number_after.Goals as goal

pub returns-then-value-most : goal.returns-then-value-most
returns-then-value-most c =
    too_great c.args.digits.now c.loop-digit.digit-index c.loop-digit.value (c.loop-digit.value * 10 + c.from.result) _ _ c.loop-digit-test.true c.loop-digit.invariant.so_far
    (omega (arith, c.from.ensures)) c.if-value-most.true

pub loop-digit-preserved : goal.loop-digit-preserved
loop-digit-preserved c = record {
  so_far = rw c.from.ensures (sym (step c.args.digits.now c.loop-digit.digit-index c.loop-digit.value c.loop-digit-test.true) ∙ c.loop-digit.invariant.so_far);
  limited = c.if-value-most.false;
}

pub returns : goal.returns
returns c = at_end c.args.digits.now c.loop-digit.digit-index _ _ _ c.loop-digit-test.false c.loop-digit.invariant.so_far c.loop-digit.invariant.limited
