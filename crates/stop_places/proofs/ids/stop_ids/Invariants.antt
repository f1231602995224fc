use Rattle.std.proofs.Common.{take}
use Rattle.stop_places.specs.Ids.{AreIdsOf}
use Rattle.stop_places.proofs.ids.stop_ids.Given as goal

abbrev pub invariant-loop-stop : goal.invariant-loop-stop
invariant-loop-stop l = AreIdsOf l.names (take l.stop-index l.stops)
