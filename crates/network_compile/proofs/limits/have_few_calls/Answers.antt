use Rattle.std.proofs.Common.{◌<◌, ◌-◌, ◌^◌, ℕ, length, get_or, take, subst, arith}
use Rattle.std.specs.Prelude.{All}
use Rattle.std.proofs.lemmas.List.{take_all}
use Rattle.std.proofs.lemmas.List.Elements.{All-more}
use Rattle.move_model.specs.declared.network.Trip.{Trip}
use Rattle.network_compile.proofs.limits.have_few_calls.Goals as goal

abbrev HasFew : Trip → Type 0
HasFew trip = length trip.calls < 2 ^ 32 - 1

pub loop-trip-preserved : goal.loop-trip-preserved
loop-trip-preserved c =
    let few : HasFew c.trip-item.result = omega (arith, c.len.ensures, c.if-len.false) in
    All-more HasFew c.args.trips.now c.loop-trip.trip-index c.trip-item.result (omega arith) c.loop-trip.invariant (subst HasFew c.trip-item.is few)

pub returns : goal.returns
returns c = λ yes. subst (All HasFew) (take_all c.loop-trip.trip-index c.args.trips.now (omega arith)) c.loop-trip.invariant
