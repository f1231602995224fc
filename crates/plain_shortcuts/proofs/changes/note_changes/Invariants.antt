use Rattle.std.proofs.Common.{◌⊎◌}
use Rattle.std.specs.Prelude.{◌↔◌, Contains}
use Rattle.plain_shortcuts.specs.declared.changes.Change.{Change}
use Rattle.plain_shortcuts.proofs.ChangeLemmas.{ChangesTo}
use Rattle.plain_shortcuts.proofs.changes.note_changes.Given as goal

abbrev pub invariant-loop-k : goal.invariant-loop-k
invariant-loop-k l = (c : Change) → Contains l.changes.items c ↔ (Contains l.fn.changes.items c ⊎ ChangesTo l.network l.stop l.second l.first l.rides l.k c)
