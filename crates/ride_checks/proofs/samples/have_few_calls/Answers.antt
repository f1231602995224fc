use Rattle.std.proofs.Common.{◌≡◌, ◌<◌, ◌-◌, ◌^◌, inl, inr, length, get_or, subst, arith, rules}
use Rattle.std.proofs.lemmas.Bool.{cases_lt}
use Rattle.std.proofs.lemmas.List.{get_or_read}
use Rattle.move_model.specs.declared.network.Trip.{Trip}
use Rattle.ride_checks.proofs.samples.have_few_calls.Goals as goal

pub loop-i-preserved : goal.loop-i-preserved
loop-i-preserved c = λ k d low. elim (cases_lt k c.loop-i.i) [
  | inl before ↦ c.loop-i.invariant k d before
  | inr past ↦
      let trips = c.args.trips.now in
      let i = c.loop-i.i in
      let at : c.index-trips-i.result ≡ get_or trips i d = get_or_read trips i c.index-trips-i.result c.loop-i-test.true c.index-trips-i.is d in
      let here : length c.index-trips-i.result.calls < 2 ^ 32 - 1 = search rules in
      let here' : length (get_or trips i d).calls < 2 ^ 32 - 1 = subst (λ (t : Trip). length t.calls < 2 ^ 32 - 1) at here in
      let same : i ≡ k = omega (arith, low, past) in
      subst (λ n. length (get_or trips n d).calls < 2 ^ 32 - 1) same here'
]

pub returns : goal.returns
returns c = λ yes k d low. c.loop-i.invariant k d (omega (arith, low, c.loop-i-test.false))
