use Rattle.std.proofs.Common.{take}
use Rattle.std.specs.Prelude.{All}
use Rattle.move_model.specs.Check.{IsLong}
use Rattle.move_model.proofs.check.first_short_trip.Given as goal

abbrev pub invariant-loop-i : goal.invariant-loop-i
invariant-loop-i l = All IsLong (take l.i l.trips)
