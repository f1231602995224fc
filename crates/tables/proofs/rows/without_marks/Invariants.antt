use Rattle.std.proofs.Common.{◌≡◌, length}
use Rattle.tables.specs.Table.{cut_marks}
use Rattle.tables.proofs.rows.without_marks.Given as goal

abbrev pub invariant-loop-after : goal.invariant-loop-after
invariant-loop-after l = cut_marks l.rest ≡ cut_marks l.bytes

abbrev pub decreases-loop-after : goal.decreases-loop-after
decreases-loop-after l = length l.rest
