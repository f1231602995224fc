use Rattle.std.proofs.Common.{arith, List, subst}
use Rattle.std.specs.Prelude.{All}
use Rattle.std.proofs.lemmas.List.{take_all}
use Rattle.move_model.specs.declared.network.StopNo.{StopNo}
use Rattle.two_trip_rides.proofs.FirstLemmas.{falls_on}
use Rattle.two_trip_passes.specs.Own.{OwnFrom}
use Rattle.two_trip_passes.proofs.OwnLemmas.{from_more, from_changed}
use Rattle.two_trip_passes.proofs.own.own_all.Goals as goal

pub loop-stop-preserved : goal.loop-stop-preserved
loop-stop-preserved c =
    let was = c.loop-stop.invariant in
    let b = c.own_stop.ensures in
    record {
      falls = falls_on c.args.own.now c.loop-stop.own c.own_stop.new.own was.falls b.falls;
      known = from_more c.args.routes.now c.args.departs c.loop-stop.own c.own_stop.new.own c.args.stops.now c.loop-stop.stop-index _ (omega arith) b.falls was.known b.known;
      changed = λ x. from_changed c.args.routes.now c.args.departs c.args.own.now c.loop-stop.own c.own_stop.new.own c.args.stops.now c.loop-stop.stop-index _ x (omega arith) (was.changed x) (b.changed x);
    }

pub returns-clause-known : goal.returns-clause-known
returns-clause-known c =
    subst (λ (xs : List StopNo). All (OwnFrom c.args.routes.now c.args.departs c.loop-stop.own) xs) (take_all c.loop-stop.stop-index c.args.stops.now (omega arith)) c.loop-stop.invariant.known
