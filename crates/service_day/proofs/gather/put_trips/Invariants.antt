use Rattle.std.proofs.Common.{◌≡◌, ◌++◌, drop}
use Rattle.std.specs.Prelude.{map}
use Rattle.std.specs.List.{flat_map, enumerate_from}
use Rattle.service_day.specs.DayTrips.{trips_at, trips_of_date}
use Rattle.service_day.specs.Departure.{trip_of, taken}
use Rattle.service_day.proofs.gather.put_trips.Given as goal

abbrev pub invariant-loop-i : goal.invariant-loop-i
invariant-loop-i l =
    map trip_of l.departures.items ++ taken l.night (flat_map (trips_at l.feed.copies l.set) (enumerate_from l.i (drop l.i l.trips)))
    ≡ map trip_of l.fn.departures.items ++ taken l.night (trips_of_date l.feed l.set)
