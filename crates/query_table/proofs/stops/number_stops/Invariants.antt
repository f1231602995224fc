use Rattle.std.proofs.Common.{take}
use Rattle.query_table.specs.Numbered.{IsNumbered}
use Rattle.query_table.proofs.stops.number_stops.Given as goal

abbrev pub invariant-loop-number : goal.invariant-loop-number
invariant-loop-number l = IsNumbered l.numbers.entries (take l.number l.stops)
