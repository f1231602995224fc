use Rattle.std.proofs.Common.{◌≡◌, ◌*◌, ◌≤◌, ◌^◌, take}
use Rattle.std.specs.Prelude.{map}
use Rattle.service_day.specs.DayTrips.{call_count}
use Rattle.service_day.specs.Departure.{trip_of}
use Rattle.service_day.proofs.number.count_calls.Given as goal

abbrev pub invariant-loop-departure : goal.invariant-loop-departure
invariant-loop-departure l =
    (l.count ≡ call_count (map trip_of (take l.departure-index l.departures))) × (l.count ≤ l.departure-index * 2 ^ 32)
