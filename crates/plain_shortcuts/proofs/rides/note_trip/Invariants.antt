use Rattle.std.proofs.Common.{◌⊎◌}
use Rattle.std.specs.Prelude.{◌↔◌, Contains}
use Rattle.plain_shortcuts.specs.declared.rides.RideCalls.{RideCalls}
use Rattle.plain_shortcuts.proofs.RideLemmas.{BoardedBelow}
use Rattle.plain_shortcuts.proofs.rides.note_trip.Given as goal

abbrev pub invariant-loop-board : goal.invariant-loop-board
invariant-loop-board l = (r : RideCalls) → Contains l.rides.items r ↔ (Contains l.fn.rides.items r ⊎ BoardedBelow l.trip l.calls l.board r)
