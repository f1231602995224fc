use Rattle.std.proofs.Common.{arith}
use Rattle.two_trip_passes.proofs.RideLemmas.{goes_stop}
use Rattle.two_trip_passes.proofs.rides.ride_stop.Goals as goal

pub returns-then-ready_less-clause-goes : goal.returns-then-ready_less-clause-goes
returns-then-ready_less-clause-goes c =
    goes_stop c.args.routes.now c.args.foot.now c.args.second c.args.places.now c.args.table.now.buffer c.args.first.now c.args.ready.now c.args.boarded.now c.put_boarded.new.boarded
    c.args.rows.now c.ride_from.new.rows c.args.best.now c.ride_from.new.best c.args.stop c.label_at-label.result (omega arith) c.label_at-label.ensures
    c.put_boarded.ensures.as_many c.put_boarded.ensures.here c.put_boarded.ensures.others c.ride_from.ensures.goes c.ride_from.ensures.ridden

pub returns-then-ready_less-clause-sound : goal.returns-then-ready_less-clause-sound
returns-then-ready_less-clause-sound c s buffer of real h =
    c.ride_from.ensures.sound s buffer of (λ some. real.each (record { 0 = c.args.stop }) c.label_at-label.result (omega arith) c.label_at-label.ensures some) h
