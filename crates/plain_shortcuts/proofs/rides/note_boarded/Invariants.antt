use Rattle.std.proofs.Common.{◌⊎◌}
use Rattle.std.specs.Prelude.{◌↔◌, Contains}
use Rattle.plain_shortcuts.specs.declared.rides.RideCalls.{RideCalls}
use Rattle.plain_shortcuts.proofs.RideLemmas.{BoardedUpTo}
use Rattle.plain_shortcuts.proofs.rides.note_boarded.Given as goal

abbrev pub invariant-loop-alight : goal.invariant-loop-alight
invariant-loop-alight l = (r : RideCalls) → Contains l.rides.items r ↔ (Contains l.fn.rides.items r ⊎ BoardedUpTo l.trip l.calls l.board l.alight r)
