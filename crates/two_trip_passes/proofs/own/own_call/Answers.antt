use Rattle.std.proofs.Common.{inl, inr}
use Rattle.two_trip_labels.proofs.FirstLemmas.{read_route}
use Rattle.two_trip_passes.proofs.OwnLemmas.{own_on}
use Rattle.two_trip_passes.proofs.own.own_call.Goals as goal

pub returns-clause-known : goal.returns-clause-known
returns-clause-known c =
    let route = c.index-routes-call.result in
    let is = read_route c.args.routes.now c.args.call.route c.requires.exists.route route _ c.requires.exists.is_route c.index-routes-call.is in
    own_on c.args.routes.now c.args.departs c.ride_own.new.own c.args.call route is c.ride_own.ensures.known

pub returns-clause-changed : goal.returns-clause-changed
returns-clause-changed c x =
    let route = c.index-routes-call.result in
    let is = read_route c.args.routes.now c.args.call.route c.requires.exists.route route _ c.requires.exists.is_route c.index-routes-call.is in
    elim (c.ride_own.ensures.changed x) [ inl same ↦ inl same | inr new ↦ inr (record { route = route; is_route = is; ride = new }) ]
