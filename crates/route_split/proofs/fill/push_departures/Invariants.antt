use Rattle.std.proofs.Common.{◌≡◌, ◌++◌, take}
use Rattle.route_split.specs.Fill.{departures_at}
use Rattle.route_split.proofs.fill.push_departures.Given as goal

abbrev pub invariant-loop-t : goal.invariant-loop-t
invariant-loop-t l = l.seconds.items ≡ l.initial.seconds.items ++ departures_at l.trips (take l.t-index l.group) l.k
