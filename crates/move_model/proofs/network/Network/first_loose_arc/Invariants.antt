use Rattle.std.proofs.Common.{take}
use Rattle.std.specs.Prelude.{All}
use Rattle.move_model.specs.Check.{Joins}
use Rattle.move_model.proofs.network.Network.first_loose_arc.Given as goal

abbrev pub invariant-loop-i : goal.invariant-loop-i
invariant-loop-i l = All (Joins l.self) (take l.i l.arcs)
