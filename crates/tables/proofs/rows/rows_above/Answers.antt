use Rattle.tables.proofs.LineEnds.{few_rows}
use Rattle.tables.proofs.rows.rows_above.Goals as goal

pub returns-then-count_line_ends-limit : goal.returns-then-count_line_ends-limit
returns-then-count_line_ends-limit c = few_rows c.args.bytes.now _ _ c.count_line_ends.ensures c.if-count_line_ends-limit.true
