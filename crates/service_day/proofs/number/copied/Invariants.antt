use Rattle.std.proofs.Common.{◌≡◌, take, length, vec_capacity}
use Rattle.std.specs.Prelude.{map}
use Rattle.service_day.specs.Departure.{trip_of}
use Rattle.service_day.proofs.number.copied.Given as goal

abbrev pub invariant-loop-departure : goal.invariant-loop-departure
invariant-loop-departure l = (l.trips.items ≡ map trip_of (take l.departure-index l.departures)) × (vec_capacity l.trips ≡ length l.departures)
