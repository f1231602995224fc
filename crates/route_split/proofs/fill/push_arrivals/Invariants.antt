use Rattle.std.proofs.Common.{◌≡◌, ◌++◌, take}
use Rattle.route_split.specs.Fill.{arrivals_at}
use Rattle.route_split.proofs.fill.push_arrivals.Given as goal

abbrev pub invariant-loop-t : goal.invariant-loop-t
invariant-loop-t l = l.seconds.items ≡ l.initial.seconds.items ++ arrivals_at l.trips (take l.t-index l.group) l.k
