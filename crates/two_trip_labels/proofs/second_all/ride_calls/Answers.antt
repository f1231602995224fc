use Rattle.std.proofs.Common.{arith, List, subst}
use Rattle.std.specs.Prelude.{All}
use Rattle.std.proofs.lemmas.List.{take_all}
use Rattle.std.proofs.lemmas.List.Elements.{All-get_or}
use Rattle.route_split.specs.declared.place.RouteCall.{RouteCall}
use Rattle.two_trip_labels.specs.Second.{MayRideCall, IsCallRidden}
use Rattle.two_trip_labels.proofs.SecondLemmas.{goes_on, ridden_more}
use Rattle.two_trip_labels.proofs.second_all.ride_calls.Goals as goal

pub loop-call-preserved : goal.loop-call-preserved
loop-call-preserved c =
    let was = c.loop-call.invariant in
    let b = c.ride_call.ensures in
    record {
      goes = goes_on c.args.routes.now c.args.foot.now c.args.second c.args.places.now c.args.ready.now c.args.rows.now c.loop-call.rows c.ride_call.new.rows c.args.best.now c.loop-call.best c.ride_call.new.best was.goes b.goes;
      boarded = ridden_more c.args.routes.now c.args.label c.args.buffer c.loop-call.rows c.ride_call.new.rows c.args.calls.now c.loop-call.call-index _ (omega arith) b.goes.rows_fall was.boarded b.boarded;
      sound = λ s of may h. b.sound s of (All-get_or (MayRideCall s c.args.routes.now c.args.label c.args.buffer) c.args.calls.now c.loop-call.call-index _ (omega arith) may) (was.sound s of may h);
    }

pub returns-clause-boarded : goal.returns-clause-boarded
returns-clause-boarded c =
    subst (λ (xs : List RouteCall). All (IsCallRidden c.args.routes.now c.args.label c.args.buffer c.loop-call.rows) xs) (take_all c.loop-call.call-index c.args.calls.now (omega arith)) c.loop-call.invariant.boarded
