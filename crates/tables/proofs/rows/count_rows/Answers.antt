use Rattle.std.proofs.Common.{arith}
use Rattle.tables.proofs.TableLemmas.{table_of-le, length-rows_of}
use Rattle.tables.proofs.rows.count_rows.Goals as goal

pub overflow_add-count : goal.overflow_add-count
overflow_add-count c = omega (arith, table_of-le c.args.bytes.now, length-rows_of c.args.bytes.now)
