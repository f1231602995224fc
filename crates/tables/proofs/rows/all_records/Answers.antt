use Rattle.tables.specs.Table.{table_of, cut_marks}
use Rattle.tables.proofs.Marks.{none-left}
use Rattle.tables.proofs.UnreadLemmas.{fresh}
use Rattle.tables.proofs.rows.all_records.Goals as goal

pub returns : goal.returns
unfolding table_of
returns c = fresh c.from_reader.result (cut_marks c.args.bytes.now) (rw (c.without_marks.ensures, none-left c.args.bytes.now) at c.from_reader.ensures.source) c.from_reader.ensures.state
