use Rattle.std.proofs.Common.{◌≡◌, ◌+◌, ◌*◌, vec_len, vec_capacity}
use Rattle.std.specs.Prelude.{map}
use Rattle.std.specs.List.{range_with_len}
use Rattle.city_maker.specs.Asked as spec
use Rattle.city_maker.proofs.queries.city_queries.Given as goal

abbrev pub invariant-loop-number : goal.invariant-loop-number
invariant-loop-number l =
    (l.queries.items ≡ map (spec.query_at l.side l.initial.draws.number l.initial.draws.made) (range_with_len 0 l.number)) × (vec_len l.queries ≡ l.number) × (vec_capacity l.queries ≡ 20)
    × (l.draws.number ≡ l.initial.draws.number) × (l.draws.made ≡ l.initial.draws.made + 3 * l.number)
