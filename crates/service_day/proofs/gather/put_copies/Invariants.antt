use Rattle.std.proofs.Common.{◌≡◌, ◌-◌, ◌++◌}
use Rattle.std.specs.Prelude.{map}
use Rattle.service_day.specs.DayTrips.{starts_from, copy_at, copies}
use Rattle.service_day.specs.Departure.{trip_of, taken}
use Rattle.service_day.proofs.gather.put_copies.Given as goal

abbrev pub invariant-loop-start : goal.invariant-loop-start
invariant-loop-start l =
    map trip_of l.departures.items ++ taken l.night (map (copy_at l.trip) (starts_from l.row.headway l.start l.row.end))
    ≡ map trip_of l.fn.departures.items ++ taken l.night (copies l.trip l.row)

abbrev pub decreases-loop-start : goal.decreases-loop-start
decreases-loop-start l = l.end - l.start
