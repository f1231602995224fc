use Rattle.std.proofs.Common.{◌≡◌, vec_len, vec_capacity}
use Rattle.std.specs.Prelude.{map}
use Rattle.std.specs.List.{range_with_len}
use Rattle.city_maker.specs.Lines as spec
use Rattle.city_maker.proofs.trips.calls_of.Given as goal

abbrev pub invariant-loop-k : goal.invariant-loop-k
invariant-loop-k l = (l.calls.items ≡ map (spec.call_at l.side l.line l.number l.back) (range_with_len 0 l.k)) × (vec_len l.calls ≡ l.k) × (vec_capacity l.calls ≡ l.many)
