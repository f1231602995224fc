use Rattle.std.proofs.Common.{◌≡◌, drop}
use Rattle.std.specs.Prelude.{map}
use Rattle.std.specs.Cmp.Lexicographic.{slice_cmp}
use Rattle.service_day.specs.Order.{call_cmp}
use Rattle.service_day.specs.Shift.{shifted_call}
use Rattle.service_day.proofs.departure.Departure.compare_all.Given as goal

abbrev pub invariant-loop-i : goal.invariant-loop-i
invariant-loop-i l =
    slice_cmp call_cmp (map (shifted_call l.self.shift) (drop l.i l.calls)) (map (shifted_call l.other.shift) (drop l.i l.others))
    ≡ slice_cmp call_cmp (map (shifted_call l.self.shift) l.calls) (map (shifted_call l.other.shift) l.others)
