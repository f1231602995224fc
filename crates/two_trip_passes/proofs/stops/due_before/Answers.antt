use Rattle.std.proofs.Common.{List, subst, arith}
use Rattle.std.specs.Prelude.{All}
use Rattle.std.proofs.lemmas.List.{take_all}
use Rattle.route_split.specs.declared.place.RouteCall.{RouteCall}
use Rattle.two_trip_passes.specs.Stops.{IsDueCall}
use Rattle.two_trip_passes.proofs.StopLemmas.{due_more}
use Rattle.two_trip_passes.proofs.stops.due_before.Goals as goal

pub loop-call-preserved : goal.loop-call-preserved
loop-call-preserved c =
    due_more c.args.routes.now c.loop-call.due c.due_at.result c.later-due.result c.args.wanted c.args.calls.now c.loop-call.call-index _ (omega arith) c.later-due.ensures.first c.later-due.ensures.second c.loop-call.invariant c.due_at.ensures

pub returns : goal.returns
returns c =
    subst (λ (xs : List RouteCall). All (IsDueCall c.args.routes.now c.loop-call.due c.args.wanted) xs) (take_all c.loop-call.call-index c.args.calls.now (omega arith)) c.loop-call.invariant
