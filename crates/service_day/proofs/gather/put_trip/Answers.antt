use Rattle.std.proofs.Common.{◌≢◌, arith, length, ap}
use Rattle.std.specs.Prelude.{map}
use Rattle.std.proofs.lemmas.Bool.Decides.{nat_tests}
use Rattle.service_day.specs.Departure.{trip_of}
use Rattle.service_day.proofs.GatherLemmas.{put_rows}
use Rattle.service_day.proofs.gather.put_trip.Goals as goal

pub returns : goal.returns
returns c =
    let some : length c.args.rows.now ≢ 0 = grind (arith, nat_tests, c.if-is_empty.ensures) in
    put_rows c.args.night c.args.trip.now c.args.rows.now c.loop-row.row-index (map trip_of c.loop-row.departures.items) (map trip_of c.args.departures.now.items)
    (λ e. some (ap length e)) c.loop-row-test.false c.loop-row.invariant
