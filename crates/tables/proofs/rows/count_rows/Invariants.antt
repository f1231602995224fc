use Rattle.std.proofs.Common.{◌≡◌, ◌+◌, length}
use Rattle.tables.specs.Table.{rows_of}
use Rattle.tables.proofs.rows.count_rows.Given as goal

abbrev pub invariant-loop-rows : goal.invariant-loop-rows
invariant-loop-rows l = l.count + length l.rows ≡ length (rows_of l.bytes)

abbrev pub decreases-loop-rows : goal.decreases-loop-rows
decreases-loop-rows l = length l.rows
