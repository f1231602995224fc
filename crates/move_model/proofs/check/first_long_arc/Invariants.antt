use Rattle.std.proofs.Common.{take}
use Rattle.std.specs.Prelude.{All}
use Rattle.move_model.specs.Check.{IsShort}
use Rattle.move_model.proofs.check.first_long_arc.Given as goal

abbrev pub invariant-loop-i : goal.invariant-loop-i
invariant-loop-i l = All IsShort (take l.i l.arcs)
