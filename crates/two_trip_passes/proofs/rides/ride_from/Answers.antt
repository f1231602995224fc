use Rattle.std.proofs.Common.{ℕ, List, sym, subst, ◌∙◌}
use Rattle.route_split.specs.Route.{Route}
use Rattle.route_split.specs.Table.{LendsCalls}
use Rattle.two_trip_passes.specs.Rides.{IsStopRidden}
use Rattle.two_trip_passes.proofs.StopLemmas.{calls_exist}
use Rattle.two_trip_passes.proofs.RideLemmas.{stop_ridden, may_ride}
use Rattle.two_trip_passes.proofs.rides.ride_from.Goals as goal

pub ride_calls-requires-clause-exist : goal.ride_calls-requires-clause-exist
ride_calls-requires-clause-exist c =
    calls_exist c.args.routes.now c.args.stop c.at_stop-calls.result.now
    (subst (λ (rs : List Route). LendsCalls rs c.args.stop c.at_stop-calls.result.now) (sym c.requires.routes) c.at_stop-calls.ensures.calls)

pub returns-clause-ridden : goal.returns-clause-ridden
returns-clause-ridden c =
    let lends = subst (λ (rs : List Route). LendsCalls rs c.args.stop c.at_stop-calls.result.now) (sym c.requires.routes) c.at_stop-calls.ensures.calls in
    subst (λ (b : ℕ). IsStopRidden c.args.routes.now c.args.foot.now c.args.second b c.args.label c.ride_calls.new.rows (record { 0 = c.args.stop })) c.buffer-buffer.ensures
    (stop_ridden c.args.routes.now c.args.foot.now c.args.second _ c.args.label c.ride_calls.new.rows c.args.stop c.at_stop-calls.result.now lends c.ride_calls.ensures.boarded)

pub returns-clause-sound : goal.returns-clause-sound
returns-clause-sound c s buffer of real h =
    let lends = subst (λ (rs : List Route). LendsCalls rs c.args.stop c.at_stop-calls.result.now) (sym c.requires.routes) c.at_stop-calls.ensures.calls in
    c.ride_calls.ensures.sound s of (may_ride s c.args.routes.now _ c.args.stop _ c.args.label c.at_stop-calls.result.now lends c.requires.whole (buffer ∙ sym c.buffer-buffer.ensures) real) h
