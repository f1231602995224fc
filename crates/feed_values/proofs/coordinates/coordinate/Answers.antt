use Rattle.std.proofs.Common.{◌≡◌, ◌∙◌, Some, None, sym, refl, ap, arith, FitsSigned, w32}
use Rattle.std.proofs.lemmas.Int.{ints, to_z-of_z}
use Rattle.feed_values.proofs.DigitLemmas.{too_long, within}
use Rattle.feed_values.proofs.coordinates.coordinate.Goals as goal

pub returns-then-text-gt40 : goal.returns-then-text-gt40
returns-then-text-gt40 c = too_long _ _ c.if-text-gt40.true

pub returns-in-Some : goal.returns-in-Some
returns-in-Some c =
    let fits : FitsSigned w32 c.signed.result = omega (arith, ints, c.signed.type_inv) in
    let e = within c.args.degrees c.args.text.now (Some c.in-Some.number) c.if-text-gt40.false (rw c.sign-minus.ensures.digits at c.in-Some.ensures) in
    rw (to_z-of_z w32 c.signed.result fits, c.signed.ensures, c.sign-minus.ensures.minus) e

pub returns-in-None : goal.returns-in-None
returns-in-None c =
    within c.args.degrees c.args.text.now None c.if-text-gt40.false (rw c.sign-minus.ensures.digits at c.in-None.ensures)
