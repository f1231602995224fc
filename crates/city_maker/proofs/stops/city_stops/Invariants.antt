use Rattle.std.proofs.Common.{◌≡◌, take}
use Rattle.city_maker.specs.Lines as spec
use Rattle.city_maker.proofs.stops.city_stops.Given as goal

abbrev pub invariant-loop-line : goal.invariant-loop-line
invariant-loop-line l = l.stops.items ≡ spec.city_stops l.side (take l.line-index l.lines)
