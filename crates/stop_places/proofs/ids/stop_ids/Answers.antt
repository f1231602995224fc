use Rattle.stop_places.proofs.IdLemmas.{ids_more}
use Rattle.stop_places.proofs.ids.stop_ids.Goals as goal

pub loop-stop-preserved : goal.loop-stop-preserved
loop-stop-preserved c =
    ids_more c.loop-stop.names c.insert.new.self c.args.stops.now c.loop-stop.stop-index c.stop-item.result c.in_ok-insert.field-0 c.loop-stop.invariant c.loop-stop-test.true c.stop-item.is
    (rw c.as_slice.ensures at c.in_ok-insert.ensures.added) (rw c.as_slice.ensures at c.in_ok-insert.ensures.names)
