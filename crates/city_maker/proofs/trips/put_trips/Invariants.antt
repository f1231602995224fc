use Rattle.std.proofs.Common.{◌≡◌, ◌++◌}
use Rattle.std.specs.List.{flat_map, range_with_len}
use Rattle.city_maker.specs.Lines as spec
use Rattle.city_maker.proofs.trips.put_trips.Given as goal

abbrev pub invariant-loop-number : goal.invariant-loop-number
invariant-loop-number l = l.trips.items ≡ l.initial.trips.items ++ flat_map (spec.trips_at l.side l.line) (range_with_len 0 l.number)
