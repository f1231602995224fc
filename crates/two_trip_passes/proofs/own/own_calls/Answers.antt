use Rattle.std.proofs.Common.{arith, List, subst}
use Rattle.std.specs.Prelude.{All}
use Rattle.std.proofs.lemmas.List.{take_all}
use Rattle.route_split.specs.declared.place.RouteCall.{RouteCall}
use Rattle.two_trip_rides.proofs.FirstLemmas.{falls_on}
use Rattle.two_trip_passes.specs.Own.{OwnAt}
use Rattle.two_trip_passes.proofs.OwnLemmas.{own_more, own_changed}
use Rattle.two_trip_passes.proofs.own.own_calls.Goals as goal

pub loop-call-preserved : goal.loop-call-preserved
loop-call-preserved c =
    let was = c.loop-call.invariant in
    let b = c.own_call.ensures in
    record {
      falls = falls_on c.args.own.now c.loop-call.own c.own_call.new.own was.falls b.falls;
      known = own_more c.args.routes.now c.args.departs c.loop-call.own c.own_call.new.own c.args.calls.now c.loop-call.call-index _ (omega arith) b.falls was.known b.known;
      changed = λ x. own_changed c.args.routes.now c.args.departs c.args.own.now c.loop-call.own c.own_call.new.own c.args.calls.now c.loop-call.call-index _ x (omega arith) (was.changed x) (b.changed x);
    }

pub returns-clause-known : goal.returns-clause-known
returns-clause-known c =
    subst (λ (xs : List RouteCall). All (OwnAt c.args.routes.now c.args.departs c.loop-call.own) xs) (take_all c.loop-call.call-index c.args.calls.now (omega arith)) c.loop-call.invariant.known
