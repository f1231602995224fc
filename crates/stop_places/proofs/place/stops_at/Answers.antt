use Rattle.std.proofs.Common.{◌≡◌, refl, ap}
use Rattle.std.specs.Prelude.{Err}
use Rattle.std.proofs.lemmas.Option.{slice_get_read}
use Rattle.move_model.specs.declared.refusal.Stopped.TheVariants as stopped
use Rattle.stop_places.specs.Given.{vertex_in}
use Rattle.stop_places.proofs.Placed.{placed_more, refused_at}
use Rattle.stop_places.proofs.place.stops_at.Goals as goal

pub loop-stop-preserved : goal.loop-stop-preserved
loop-stop-preserved c =
    let here = slice_get_read c.args.stops.now _ c.loop-stop.stop-index c.stop-item.result refl c.loop-stop-test.true c.stop-item.is in
    let more = placed_more (vertex_in c.args.given.now) c.args.near.now c.args.stops.now c.loop-stop.placed c.push.new.self c.loop-stop.stop-index c.stop-item.result c.in-Ok.next
    c.loop-stop.invariant.long c.loop-stop.invariant.each here c.in-Ok.ensures.placed c.in-Ok-push.ensures.ok in
    record { long = more.0; each = more.1 }

pub returns-in-Err-clause-refused : goal.returns-in-Err-clause-refused
returns-in-Err-clause-refused c = λ r e.
    let here = slice_get_read c.args.stops.now _ c.loop-stop.stop-index c.stop-item.result refl c.loop-stop-test.true c.stop-item.is in
    let same : c.in-Err.stopped ≡ stopped.Refused r = cc e in
    let broken = c.in-Err.ensures.refused r (ap (λ s. Err s) same) in
    record {
      place = c.loop-stop.stop-index;
      stop = c.stop-item.result;
      there = here;
      none = broken.1;
      earlier = refused_at (vertex_in c.args.given.now) c.args.near.now c.args.stops.now c.loop-stop.placed c.loop-stop.stop-index c.loop-stop.invariant.long c.loop-stop.invariant.each;
      of_row = broken.0;
    }
