use Rattle.std.proofs.Common.{◌≡◌, ◌++◌, drop}
use Rattle.std.specs.Prelude.{map}
use Rattle.std.specs.List.{flat_map}
use Rattle.service_day.specs.DayTrips.{copies}
use Rattle.service_day.specs.Departure.{trip_of, taken}
use Rattle.service_day.proofs.gather.put_trip.Given as goal

abbrev pub invariant-loop-row : goal.invariant-loop-row
invariant-loop-row l =
    map trip_of l.departures.items ++ taken l.night (flat_map (copies l.trip) (drop l.row-index l.rows))
    ≡ map trip_of l.fn.departures.items ++ taken l.night (flat_map (copies l.trip) l.rows)
