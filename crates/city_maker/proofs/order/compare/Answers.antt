use Rattle.std.proofs.Common.{sym, ◌∙◌, arith}
use Rattle.std.specs.Cmp.Lexicographic.{slice_cmp}
use Rattle.city_maker.specs.Order.{call_cmp}
use Rattle.city_maker.proofs.Numbers.{slice_cmp-end}
use Rattle.city_maker.proofs.order.compare.Goals as goal

pub returns : goal.returns
returns c =
    c.cmp.ensures
    ∙ sym (slice_cmp-end call_cmp c.as_slice-calls.result.now c.as_slice-others.result.now c.loop-i.i (omega arith))
    ∙ c.loop-i.invariant
    ∙ (λ i. slice_cmp call_cmp (c.as_slice-calls.ensures i) (c.as_slice-others.ensures i))
