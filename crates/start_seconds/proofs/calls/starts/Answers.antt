use Rattle.std.proofs.Common.{◌≡◌, List, Some, length, slice_get, refl, sym, ap, ◌∙◌, subst, arith}
use Rattle.std.proofs.lemmas.Option.{slice_get_read}
use Rattle.move_model.specs.declared.network.Trip.{Trip}
use Rattle.start_seconds.specs.declared.start.Start.{Start}
use Rattle.start_seconds.specs.Starts.{AreStarts}
use Rattle.start_seconds.proofs.NoteLemmas.{starts_are}
use Rattle.start_seconds.proofs.calls.starts.Goals as goal

pub loop-trip-preserved : goal.loop-trip-preserved
loop-trip-preserved c =
    let trips = c.as_slice-trip-items.result.now in
    let i = c.loop-trip.trip-index in
    let there : slice_get c.args.network.now.trips c.loop-trip.trip-index ≡ Some c.trip-item.result =
    ap (λ (ts : List Trip). slice_get ts c.loop-trip.trip-index) (sym c.as_slice-trip-items.ensures) ∙ slice_get_read trips (length trips) i c.trip-item.result refl c.loop-trip-test.true c.trip-item.is in
    c.in_ok-note_trip.ensures c.loop-trip.trip-index (c.trip-item.result, there, sym c.as_slice.ensures) c.loop-trip.invariant

pub returns : goal.returns
returns c =
    subst (λ (starts : List Start). AreStarts c.args.network.now c.args.rows.now starts) (sym c.from_vec.ensures)
    (starts_are c.args.network.now c.args.rows.now c.loop-trip.trip-index c.loop-trip.list.items c.put_in_order.new.starts.items c.requires.places
    (omega (arith, c.loop-trip-test.false, ap length c.as_slice-trip-items.ensures)) c.loop-trip.invariant c.put_in_order.ensures.same c.put_in_order.ensures.falling)
