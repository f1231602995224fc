use Rattle.two_trip_labels.proofs.WalkLemmas.{cuts_last}
use Rattle.two_trip_passes.proofs.WalkLemmas.{goes_on, low_more}
use Rattle.two_trip_passes.proofs.walks.walk_all.Goals as goal

pub loop-stop-preserved : goal.loop-stop-preserved
loop-stop-preserved c =
    let was = c.loop-stop.invariant in
    let w = c.walk_stop.ensures in
    record {
      goes = goes_on c.args.rows.now c.args.foot.now c.args.second c.args.first.now c.args.walked.now c.loop-stop.walked c.walk_stop.new.walked c.args.ready.now c.loop-stop.ready c.walk_stop.new.ready was.goes w.goes;
      cuts = cuts_last c.args.foot.now c.args.second c.loop-stop.ready c.walk_stop.new.ready c.put_cuts.new.cuts w.goes.ready_falls was.cuts;
      low = low_more c.args.first.now c.loop-stop.walked c.walk_stop.new.walked c.loop-stop.stop w.goes.each was.low w.low;
    }
