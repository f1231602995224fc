use Rattle.std.proofs.Common.{ℕ, ◌<◌, slice_index_or}
use Rattle.plain_shortcuts.specs.declared.changes.Change.{Change}
use Rattle.plain_shortcuts.specs.Changes.{IsLessTo}
use Rattle.plain_shortcuts.proofs.keys.has_less.Given as goal

abbrev pub invariant-loop-k : goal.invariant-loop-k
invariant-loop-k l = (i : ℕ) (d : Change) → i < l.k → IsLessTo l.network (slice_index_or l.changes i d) l.to l.key → ⊥
