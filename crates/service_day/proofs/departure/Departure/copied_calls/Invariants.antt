use Rattle.std.proofs.Common.{◌≡◌, take, length, vec_capacity}
use Rattle.std.specs.Prelude.{map}
use Rattle.service_day.specs.Shift.{shifted_call}
use Rattle.service_day.proofs.departure.Departure.copied_calls.Given as goal

abbrev pub invariant-loop-call : goal.invariant-loop-call
invariant-loop-call l = (l.calls.items ≡ map (shifted_call l.shift) (take l.call-index l.lent)) × (vec_capacity l.calls ≡ length l.lent)
