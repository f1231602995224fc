use Rattle.std.proofs.Common.{ℕ, ◌+◌, ◌<◌, ◌∙◌}
use Rattle.std.specs.Prelude.{slice_index}
use Rattle.two_trip_labels.proofs.FirstLemmas.{goes_on}
use Rattle.two_trip_passes.proofs.StopLemmas.{boarded_more}
use Rattle.two_trip_passes.proofs.stops.board_all.Goals as goal

pub loop-stop-preserved : goal.loop-stop-preserved
loop-stop-preserved c =
    let was = c.loop-stop.invariant in
    let b = c.board_stop.ensures in
    record {
      goes = goes_on c.args.routes.now c.args.foot.now c.args.second c.args.rows.now c.loop-stop.rows c.board_stop.new.rows c.args.first.now c.loop-stop.first c.board_stop.new.first was.goes b.goes;
      dues = b.dues ∙ was.dues;
      due = b.due;
      caught = boarded_more c.args.routes.now (λ (x : ℕ). c.args.second + slice_index c.args.foot.now x < c.args.before) (λ (x : ℕ). c.args.second + slice_index c.args.foot.now x + c.args.table.now.buffer) c.loop-stop.rows c.board_stop.new.rows c.loop-stop.stop b.goes.rows_fall was.caught b.caught;
      sound = λ s at buffer of walks h. b.sound s at buffer of walks (was.sound s at buffer of walks h);
    }
