use Rattle.std.proofs.Common.{sym, ◌∙◌, arith}
use Rattle.service_day.specs.Order.{call_cmp}
use Rattle.service_day.specs.Shift.{shifted_call}
use Rattle.service_day.proofs.OrderLemmas.{slice_cmp-end}
use Rattle.service_day.proofs.departure.Departure.compare_all.Goals as goal

pub returns : goal.returns
returns c =
    c.cmp.ensures
    ∙ sym (slice_cmp-end call_cmp (shifted_call c.args.self.now.shift) (shifted_call c.args.other.now.shift) c.args.self.now.calls.now c.args.other.now.calls.now c.loop-i.i (omega arith))
    ∙ c.loop-i.invariant
