use Rattle.std.proofs.Common.{List, inl, inr, sym, subst}
use Rattle.route_split.specs.Route.{Route}
use Rattle.route_split.specs.Table.{LendsCalls}
use Rattle.two_trip_passes.proofs.StopLemmas.{calls_exist}
use Rattle.two_trip_passes.proofs.OwnLemmas.{own_from, from_own}
use Rattle.two_trip_passes.proofs.own.own_stop.Goals as goal

pub own_calls-requires-clause-exist : goal.own_calls-requires-clause-exist
own_calls-requires-clause-exist c =
    calls_exist c.args.routes.now c.args.stop.0 c.at_stop.result.now
    (subst (λ (rs : List Route). LendsCalls rs c.args.stop.0 c.at_stop.result.now) (sym c.requires.routes) c.at_stop.ensures.calls)

pub returns-clause-known : goal.returns-clause-known
returns-clause-known c =
    own_from c.args.routes.now c.args.departs c.own_calls.new.own c.args.stop c.at_stop.result.now
    (subst (λ (rs : List Route). LendsCalls rs c.args.stop.0 c.at_stop.result.now) (sym c.requires.routes) c.at_stop.ensures.calls) c.own_calls.ensures.known

pub returns-clause-changed : goal.returns-clause-changed
returns-clause-changed c x = elim (c.own_calls.ensures.changed x) [
  | inl same ↦ inl same
  | inr new ↦ inr (from_own c.args.routes.now c.args.departs c.args.stop c.at_stop.result.now x _
      (subst (λ (rs : List Route). LendsCalls rs c.args.stop.0 c.at_stop.result.now) (sym c.requires.routes) c.at_stop.ensures.calls) new)
]
