use Rattle.std.proofs.Common.{◌≡◌, ◌∙◌, true, false, sym, refl, ap, arith}
use Rattle.feed_values.specs.Coordinate.{is_decimal, millionths, whole_digits, digits_after}
use Rattle.feed_values.proofs.DigitLemmas.{not_decimal, of_decimal, whole_too_great, number_is, digits_after-append}
use Rattle.feed_values.proofs.coordinates.magnitude.Goals as goal

pub returns-then-not-are_some_digits : goal.returns-then-not-are_some_digits
unfolding is_decimal
returns-then-not-are_some_digits c =
    not_decimal _ _ (sym (rw (c.point.ensures.whole, c.point.ensures.decimals) at c.are_some_digits.ensures) ∙ c.if-not-are_some_digits.true)

pub returns-in-Some : goal.returns-in-Some
unfolding is_decimal millionths
returns-in-Some c =
    let good : is_decimal c.args.text.now ≡ true = sym (rw (c.point.ensures.whole, c.point.ensures.decimals) at c.are_some_digits.ensures) ∙ c.if-not-are_some_digits.false in
    let whole : c.in-Some.number ≡ digits_after 0 (whole_digits c.args.text.now) = number_is _ _ _ (rw c.point.ensures.whole at c.in-Some.ensures) in
    let value : digits_after c.in-Some.number c.six.result ≡ millionths c.args.text.now =
    rw (whole, c.six.ensures.value, c.point.ensures.decimals) (sym (digits_after-append (whole_digits c.args.text.now) _ 0)) in
    c.number_after-in-Some.ensures ∙ of_decimal c.args.text.now _ _ good value

pub returns-in-None : goal.returns-in-None
unfolding is_decimal
returns-in-None c =
    let good : is_decimal c.args.text.now ≡ true = sym (rw (c.point.ensures.whole, c.point.ensures.decimals) at c.are_some_digits.ensures) ∙ c.if-not-are_some_digits.false in
    whole_too_great c.args.text.now _ good (rw c.point.ensures.whole at c.in-None.ensures)
