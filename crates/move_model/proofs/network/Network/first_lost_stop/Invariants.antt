use Rattle.std.proofs.Common.{take}
use Rattle.std.specs.Prelude.{All}
use Rattle.move_model.specs.Check.{Stands}
use Rattle.move_model.proofs.network.Network.first_lost_stop.Given as goal

abbrev pub invariant-loop-i : goal.invariant-loop-i
invariant-loop-i l = All (Stands l.self) (take l.i l.stops)
