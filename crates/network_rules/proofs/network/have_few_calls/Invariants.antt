use Rattle.std.proofs.Common.{◌≡◌, ◌+◌, take, length}
use Rattle.std.specs.Prelude.{sum_by}
use Rattle.network_rules.proofs.network.have_few_calls.Given as goal

abbrev pub invariant-loop-trip : goal.invariant-loop-trip
invariant-loop-trip l = l.left + sum_by (λ trip. length trip.calls) (take l.trip-index l.trips) ≡ 20000000
