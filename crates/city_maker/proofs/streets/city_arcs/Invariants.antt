use Rattle.std.proofs.Common.{◌≡◌, ◌+◌, ◌-◌, ◌*◌, ◌≤◌, length}
use Rattle.std.specs.List.{flat_map, range_with_len, enumerate_from}
use Rattle.city_maker.specs.Streets as spec
use Rattle.city_maker.proofs.streets.city_arcs.Given as goal

abbrev pub invariant-loop-v : goal.invariant-loop-v
invariant-loop-v l =
    let streets = flat_map (spec.streets_from l.side) (range_with_len 1 (l.v - 1)) in
    (l.arcs.items ≡ flat_map (spec.both_ways l.initial.draws.number) (enumerate_from l.initial.draws.made streets))
    × (l.draws.number ≡ l.initial.draws.number) × (l.draws.made ≡ l.initial.draws.made + length streets) × (length streets ≤ 2 * (l.v - 1))
