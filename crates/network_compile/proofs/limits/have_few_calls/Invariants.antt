use Rattle.std.proofs.Common.{◌<◌, ◌-◌, ◌^◌, take, length}
use Rattle.std.specs.Prelude.{All}
use Rattle.network_compile.proofs.limits.have_few_calls.Given as goal

abbrev pub invariant-loop-trip : goal.invariant-loop-trip
invariant-loop-trip l = All (λ trip. length trip.calls < 2 ^ 32 - 1) (take l.trip-index l.trips)
