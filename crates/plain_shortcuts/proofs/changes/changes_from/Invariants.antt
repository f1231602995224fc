use Rattle.std.proofs.Common.{◌⊎◌, []}
use Rattle.std.specs.Prelude.{◌↔◌, Contains}
use Rattle.plain_shortcuts.specs.declared.changes.Change.{Change}
use Rattle.plain_shortcuts.proofs.ChangeLemmas.{ChangesBelow}
use Rattle.plain_shortcuts.proofs.changes.changes_from.Given as goal

abbrev pub invariant-loop-k : goal.invariant-loop-k
invariant-loop-k l = (c : Change) → Contains l.changes.items c ↔ (Contains {X = Change} [] c ⊎ ChangesBelow l.network l.stop l.second l.rides l.k c)
