use Rattle.std.proofs.Common.{take}
use Rattle.std.specs.Prelude.{All}
use Rattle.two_trip_passes.specs.Stops.{IsDueCall}
use Rattle.two_trip_passes.proofs.stops.due_before.Given as goal

abbrev pub invariant-loop-call : goal.invariant-loop-call
invariant-loop-call l = All (IsDueCall l.routes l.due l.wanted) (take l.call-index l.calls)
