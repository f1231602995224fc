use Rattle.std.proofs.Common.{◌≡◌, ◌++◌}
use Rattle.std.specs.Prelude.{map}
use Rattle.std.specs.List.{range_with_len}
use Rattle.city_maker.specs.Lines as spec
use Rattle.city_maker.proofs.stops.put_stops.Given as goal

abbrev pub invariant-loop-i : goal.invariant-loop-i
invariant-loop-i l = l.stops.items ≡ l.initial.stops.items ++ map (spec.stop_at l.side l.line) (range_with_len 0 l.i)
