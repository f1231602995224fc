use Rattle.std.proofs.Common.{◌⊎◌, []}
use Rattle.std.specs.Prelude.{◌↔◌, Contains}
use Rattle.plain_shortcuts.specs.declared.rides.RideCalls.{RideCalls}
use Rattle.plain_shortcuts.proofs.RideLemmas.{RidesBelow}
use Rattle.plain_shortcuts.proofs.rides.rides_of.Given as goal

abbrev pub invariant-loop-t : goal.invariant-loop-t
invariant-loop-t l = (r : RideCalls) → Contains l.rides.items r ↔ (Contains {X = RideCalls} [] r ⊎ RidesBelow l.network l.t r)
