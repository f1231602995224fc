use Rattle.two_trip_passes.proofs.RideLemmas.{goes_on, low_more}
use Rattle.two_trip_passes.proofs.rides.ride_all.Goals as goal

pub loop-stop-preserved : goal.loop-stop-preserved
loop-stop-preserved c =
    let was = c.loop-stop.invariant in
    let b = c.ride_stop.ensures in
    record {
      goes = goes_on c.args.routes.now c.args.foot.now c.args.second c.args.places.now c.args.table.now.buffer c.args.first.now c.args.ready.now
          c.args.boarded.now c.loop-stop.boarded c.ride_stop.new.boarded c.args.rows.now c.loop-stop.rows c.ride_stop.new.rows c.args.best.now c.loop-stop.best c.ride_stop.new.best was.goes b.goes;
      low = low_more c.args.places.now c.args.first.now c.args.ready.now c.loop-stop.boarded c.ride_stop.new.boarded c.loop-stop.stop b.goes.each was.low b.low;
      sound = λ s buffer of real h. b.sound s buffer of real (was.sound s buffer of real h);
    }
