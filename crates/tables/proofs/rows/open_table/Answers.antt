use Rattle.tables.proofs.TableLemmas.{read_header}
use Rattle.tables.proofs.rows.open_table.Goals as goal

pub returns-in-Ok-clause-header : goal.returns-in-Ok-clause-header
returns-in-Ok-clause-header c = (read_header c.args.bytes.now c.in-Ok.field-0 _ _ _ c.all_records-rows.ensures c.in-Ok.ensures.reads).0

pub returns-in-Ok-clause-rows : goal.returns-in-Ok-clause-rows
returns-in-Ok-clause-rows c = (read_header c.args.bytes.now c.in-Ok.field-0 _ _ _ c.all_records-rows.ensures c.in-Ok.ensures.reads).1
