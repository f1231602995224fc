use Rattle.std.proofs.Common.{◌≡◌, ◌⊎◌, List, Some, length, slice_get, refl, sym, ap, ◌∙◌, subst, arith}
use Rattle.std.specs.Prelude.{◌↔◌, Contains}
use Rattle.std.proofs.lemmas.Option.{slice_get_read}
use Rattle.move_model.specs.declared.network.Call.{Call}
use Rattle.move_model.specs.declared.network.Trip.{Trip}
use Rattle.plain_shortcuts.specs.Rides.{IsTripRide}
use Rattle.plain_shortcuts.proofs.Lists.{comes_more, comes_all}
use Rattle.plain_shortcuts.proofs.RideLemmas.{below_trip, below_trips}
use Rattle.plain_shortcuts.proofs.rides.rides_of.Goals as goal

pub loop-t-preserved : goal.loop-t-preserved
loop-t-preserved c = λ r.
    let n = c.args.network.now in
    let trips = c.as_slice-trips.result.now in
    let t = c.loop-t.t in
    let trip = c.index-trips-t.result in
    let there : slice_get n.trips t ≡ Some trip = ap (λ (ts : List Trip). slice_get ts t) (sym c.as_slice-trips.ensures) ∙ slice_get_read trips (length trips) t trip refl c.loop-t-test.true c.index-trips-t.is in
    let called : c.as_slice.result.now ≡ trip.calls = c.as_slice.ensures ∙ ap (λ (x : Trip). x.calls) (sym c.index-trips-t.is) in
    let noted : Contains c.note_trip.new.rides.items r ↔ (Contains c.loop-t.rides.items r ⊎ IsTripRide (record { 0 = t }) c.as_slice.result.now r) = c.in_ok-note_trip.ensures r in
    let given = subst (λ (cs : List Call). Contains c.note_trip.new.rides.items r ↔ (Contains c.loop-t.rides.items r ⊎ IsTripRide (record { 0 = t }) cs r)) called noted in
    comes_more _ _ _ _ _ _ (c.loop-t.invariant r) given (below_trip n t trip r there)

pub returns : goal.returns
returns c = λ r. comes_all r _ _ _ (c.loop-t.invariant r)
    (below_trips c.args.network.now c.loop-t.t r (omega (arith, c.loop-t-test.false, ap length c.as_slice-trips.ensures)))
