use Rattle.std.proofs.Common.{◌≡◌, drop}
use Rattle.std.specs.Cmp.Lexicographic.{slice_cmp}
use Rattle.city_maker.specs.Order.{call_cmp}
use Rattle.city_maker.proofs.order.compare.Given as goal

abbrev pub invariant-loop-i : goal.invariant-loop-i
invariant-loop-i l = slice_cmp call_cmp (drop l.i l.calls) (drop l.i l.others) ≡ slice_cmp call_cmp l.calls l.others
