use Rattle.std.proofs.Common.{◌≡◌, take}
use Rattle.city_maker.specs.Lines as spec
use Rattle.city_maker.proofs.trips.city_trips.Given as goal

abbrev pub invariant-loop-line : goal.invariant-loop-line
invariant-loop-line l = l.trips.items ≡ spec.city_trips l.side (take l.line-index l.lines)
