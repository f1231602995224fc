use Rattle.std.proofs.Common.{◌-◌}
use Rattle.network_shape.specs.Search.{IsBetween}
use Rattle.network_shape.proofs.find.place.Given as goal

abbrev pub decreases-halves : goal.decreases-halves
decreases-halves l = l.high - l.low

abbrev pub invariant-halves : goal.invariant-halves
invariant-halves l = IsBetween l.arcs l.from l.to l.low l.high
