use Rattle.std.proofs.Common.{◌≡◌, ℕ, get_or, subst, ap, ◌∙◌, arith, Some}
use Rattle.std.specs.Prelude.{slice_get, Contains}
use Rattle.std.proofs.lemmas.List.{get_or_default}
use Rattle.std.proofs.lemmas.Option.{slice_get-get_or}
use Rattle.route_split.specs.Route.{Route}
use Rattle.route_split.specs.declared.place.RouteCall.{RouteCall}
use Rattle.raptor_rounds.proofs.WalksLemmas.{below_more}
use Rattle.range_lanes.specs.Levels.{Boarded, StartsFrom}
use Rattle.range_lanes.proofs.Falling.{left_falls_on, boarded_falls}
use Rattle.range_lanes.proofs.Scanning.{call_exists, call_within, call_stop, has_call}
use Rattle.range_lanes.proofs.scan.board_stop.Goals as goal

pub loop-call-preserved : goal.loop-call-preserved
loop-call-preserved g c =
    let was = c.loop-call.invariant in
    let now = c.board_call.ensures in
    let below = c.args.below.now in
    let calls = c.at_stop-calls.result.now in
    let n = c.loop-call.call-index in
    let none : RouteCall = record { route = 0; call = 0 } in
    let item : RouteCall = get_or calls n none in
    let has : Contains calls item = (n, c.loop-call-test.true, get_or_default calls n item none c.loop-call-test.true) in
    record {
      falls = left_falls_on _ _ _ _ _ _ was.falls now.falls;
      boarded = λ i x route lt at is. below_more none calls n
          (λ x. (route : Route) → slice_get c.args.table.now.routes x.route ≡ Some route
          → Boarded below c.board_call.new.level route c.args.table.now.buffer x.call c.args.second)
          c.loop-call-test.true
          (λ i x less at route is. boarded_falls below _ _ route _ x.call _ now.falls.falls (was.boarded i x route less at is))
          (λ route is. now.boarded route is) i x lt at route is;
      covers = λ h. now.covers (was.covers h);
      sound = λ q last_is buffer_is holds starts old. now.sound q last_is buffer_is holds
          (λ route place is at. subst (λ v. StartsFrom q below v c.args.second c.args.from)
          (call_stop c.args.table.now.routes c.args.stop calls c.at_stop-calls.ensures.calls item has route place is at) starts)
          (was.sound q last_is buffer_is holds starts old);
      lent = now.held;
      counted = omega (arith, was.counted, now.counted);
    }

pub returns-clause-boarded : goal.returns-clause-boarded
returns-clause-boarded g c r i route place is at e =
    let calls = c.at_stop-calls.result.now in
    let call : RouteCall = record { route = r; call = i } in
    let has : Contains calls call = has_call c.args.table.now.routes c.args.stop.0 calls c.at_stop-calls.ensures.calls r i route place is at e in
    c.loop-call.invariant.boarded has.0 call route (omega (arith, has.1, c.loop-call-test.false))
    (slice_get-get_or calls has.0 call has.1 ∙ ap Some has.2) is

pub board_call-requires-clause-route : goal.board_call-requires-clause-route
board_call-requires-clause-route g c route is =
    let calls = c.at_stop-calls.result.now in
    let n = c.loop-call.call-index in
    let none : RouteCall = record { route = 0; call = 0 } in
    let item : RouteCall = get_or calls n none in
    call_within c.args.table.now.routes c.args.stop.0 calls c.at_stop-calls.ensures.calls item
    (n, c.loop-call-test.true, get_or_default calls n item none c.loop-call-test.true) route is

pub board_call-requires-clause-exists : goal.board_call-requires-clause-exists
board_call-requires-clause-exists g c =
    let calls = c.at_stop-calls.result.now in
    let n = c.loop-call.call-index in
    let none : RouteCall = record { route = 0; call = 0 } in
    let item : RouteCall = get_or calls n none in
    call_exists c.args.table.now.routes c.args.stop.0 calls c.at_stop-calls.ensures.calls item
    (n, c.loop-call-test.true, get_or_default calls n item none c.loop-call-test.true)
