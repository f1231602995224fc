use Rattle.std.proofs.Common.{◌≡◌, ◌≤◌, length, drop, take, map}
use Rattle.refusals.specs.Refusal.{Accepted}
use Rattle.tables.specs.Table.{row_at}
use Rattle.query_table.specs.Rules.{query_rules, query_of}
use Rattle.query_table.proofs.read.read_rows.Given as goal

abbrev pub invariant-rows : goal.invariant-rows
invariant-rows l = record {
  left : l.rows ≡ drop l.number l.fn.rows;
  within : l.number ≤ length l.fn.rows;
  accepted : Accepted (query_rules l.network l.columns) (row_at l.fn.rows) l.number;
  queries : l.queries ≡ map (query_of l.network l.columns) (take l.number l.fn.rows);
}

abbrev pub decreases-rows : goal.decreases-rows
decreases-rows l = length l.rows
