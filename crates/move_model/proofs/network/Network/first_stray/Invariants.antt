use Rattle.std.proofs.Common.{take}
use Rattle.std.specs.Prelude.{All}
use Rattle.move_model.specs.Check.{IsAtStop}
use Rattle.move_model.proofs.network.Network.first_stray.Given as goal

abbrev pub invariant-loop-i : goal.invariant-loop-i
invariant-loop-i l = All (λ trip. All (IsAtStop l.self) trip.calls) (take l.i l.trips)
