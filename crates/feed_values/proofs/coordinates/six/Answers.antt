use Rattle.std.proofs.Common.{◌≡◌, ◌∙◌, ◌-◌, take, replicate, ◌++◌, sym, refl, ap, arith}
use Rattle.feed_values.specs.Coordinate.{six_digits}
use Rattle.feed_values.proofs.DigitLemmas.{filled, cut, digits-six}
use Rattle.feed_values.proofs.coordinates.six.Goals as goal

pub returns-else-i-decimals-clause-value : goal.returns-else-i-decimals-clause-value
returns-else-i-decimals-clause-value c =
    c.loop-i.invariant.so_far ∙ filled c.args.decimals.now c.loop-i.i c.loop-i.invariant.within c.loop-i.invariant.long c.if-i-decimals.false

pub returns-else-i-decimals-clause-digits : goal.returns-else-i-decimals-clause-digits
returns-else-i-decimals-clause-digits c h =
    rw (c.loop-i.invariant.so_far, filled c.args.decimals.now c.loop-i.i c.loop-i.invariant.within c.loop-i.invariant.long c.if-i-decimals.false) (digits-six c.args.decimals.now h)

pub returns-after-loop-i-clause-value : goal.returns-after-loop-i-clause-value
returns-after-loop-i-clause-value c =
    let end : c.loop-i.i ≡ 6 = omega (arith, c.loop-i.invariant.within) in
    c.loop-i.invariant.so_far ∙ rw end (cut c.args.decimals.now (omega (arith, c.loop-i.invariant.long)))

pub returns-after-loop-i-clause-digits : goal.returns-after-loop-i-clause-digits
returns-after-loop-i-clause-digits c h =
    let end : c.loop-i.i ≡ 6 = omega (arith, c.loop-i.invariant.within) in
    let here : take c.loop-i.i c.args.decimals.now ++ replicate (6 - c.loop-i.i) 48 ≡ six_digits c.args.decimals.now =
    rw end (cut c.args.decimals.now (omega (arith, c.loop-i.invariant.long))) in
    rw (c.loop-i.invariant.so_far, here) (digits-six c.args.decimals.now h)
