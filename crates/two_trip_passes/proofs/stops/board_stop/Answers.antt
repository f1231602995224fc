use Rattle.std.proofs.Common.{ℕ, ◌+◌, List, arith, sym, subst}
use Rattle.std.specs.Prelude.{slice_index}
use Rattle.route_split.specs.Route.{Route}
use Rattle.route_split.specs.Table.{LendsCalls}
use Rattle.two_trip_passes.specs.Stops.{IsStopBoarded}
use Rattle.two_trip_passes.proofs.StopLemmas.{all_timed, stop_due, due_put, calls_exist, stop_boarded, may_board}
use Rattle.two_trip_passes.proofs.stops.board_stop.Goals as goal

pub board_calls-requires-clause-exist : goal.board_calls-requires-clause-exist
board_calls-requires-clause-exist c =
    calls_exist c.args.routes.now c.args.stop c.at_stop-calls.result.now
    (subst (λ (rs : List Route). LendsCalls rs c.args.stop c.at_stop-calls.result.now) (sym c.requires.routes) c.at_stop-calls.ensures.calls)

pub returns-clause-caught : goal.returns-clause-caught
returns-clause-caught c near =
    let lends = subst (λ (rs : List Route). LendsCalls rs c.args.stop c.at_stop-calls.result.now) (sym c.requires.routes) c.at_stop-calls.ensures.calls in
    subst (λ (b : ℕ). IsStopBoarded c.args.routes.now (c.args.second + slice_index c.args.foot.now c.args.stop + b) c.board_calls.new.rows c.args.stop) c.buffer.ensures
    (stop_boarded c.args.routes.now _ c.board_calls.new.rows c.args.stop c.at_stop-calls.result.now lends c.board_calls.ensures.boarded)

pub returns-clause-sound : goal.returns-clause-sound
returns-clause-sound c s at buffer of walks h =
    let lends = subst (λ (rs : List Route). LendsCalls rs c.args.stop c.at_stop-calls.result.now) (sym c.requires.routes) c.at_stop-calls.ensures.calls in
    c.board_calls.ensures.sound s of
    (may_board s c.args.routes.now _ c.args.stop _ c.args.foot.now c.at_stop-calls.result.now lends c.requires.whole walks (omega arith) (omega (arith, at, buffer, c.buffer.ensures))) h

pub due_before-requires-clause-timed : goal.due_before-requires-clause-timed
due_before-requires-clause-timed c = all_timed _ c.args.routes.now c.requires.whole

pub due_before-requires-clause-exist : goal.due_before-requires-clause-exist
due_before-requires-clause-exist c =
    calls_exist c.args.routes.now c.args.stop c.at_stop-calls.result.now
    (subst (λ (rs : List Route). LendsCalls rs c.args.stop c.at_stop-calls.result.now) (sym c.requires.routes) c.at_stop-calls.ensures.calls)

pub returns-clause-due : goal.returns-clause-due
returns-clause-due c =
    let lends = subst (λ (rs : List Route). LendsCalls rs c.args.stop c.at_stop-calls.result.now) (sym c.requires.routes) c.at_stop-calls.ensures.calls in
    let here = stop_due c.args.routes.now c.due_before.result _ c.board_calls.new.rows c.args.stop c.at_stop-calls.result.now lends c.due_before.ensures c.board_calls.ensures.boarded in
    due_put c.args.routes.now c.args.rows.now c.board_calls.new.rows c.args.due.now c.put_due.new.due c.args.stop c.board_calls.ensures.goes.rows_fall
    c.put_due.ensures.as_many c.put_due.ensures.others (rw c.put_due.ensures.here here) c.requires.due
