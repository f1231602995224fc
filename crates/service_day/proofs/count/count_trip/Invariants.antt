use Rattle.std.proofs.Common.{◌≡◌, ◌+◌, drop, length}
use Rattle.std.specs.List.{flat_map}
use Rattle.service_day.specs.DayTrips.{copies, gives}
use Rattle.service_day.specs.Departure.{taken}
use Rattle.service_day.proofs.count.count_trip.Given as goal

abbrev pub invariant-loop-row : goal.invariant-loop-row
invariant-loop-row l =
    l.count + length (taken l.night (flat_map (copies l.trip) (drop l.row-index l.rows))) ≡ length (taken l.night (gives l.rows l.trip))
