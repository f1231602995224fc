use Rattle.std.proofs.Common.{take}
use Rattle.std.specs.Prelude.{All}
use Rattle.move_model.specs.Check.{AreTimed}
use Rattle.move_model.proofs.check.first_untimed.Given as goal

abbrev pub invariant-loop-i : goal.invariant-loop-i
invariant-loop-i l = All (λ trip. AreTimed trip.calls) (take l.i l.trips)
