use Rattle.std.proofs.Common.{◌≡◌, ◌+◌, drop, length}
use Rattle.std.specs.List.{flat_map, enumerate_from}
use Rattle.service_day.specs.DayTrips.{trips_at, trips_of_date}
use Rattle.service_day.specs.Departure.{taken}
use Rattle.service_day.proofs.count.count_trips.Given as goal

abbrev pub invariant-loop-i : goal.invariant-loop-i
invariant-loop-i l =
    l.count + length (taken l.night (flat_map (trips_at l.feed.copies l.set) (enumerate_from l.i (drop l.i l.trips))))
    ≡ length (taken l.night (trips_of_date l.feed l.set))
