use Rattle.std.proofs.Common.{arith}
use Rattle.route_split.proofs.OrderLemmas.{ride_forward}
use Rattle.shortcut_checks.proofs.tables.table_of.Goals as goal

pub returns-clause-table : goal.returns-clause-table
returns-clause-table c = record {
  stops_are = omega (arith, c.in_ok-table.ensures.stops);
  buffer_is = c.in_ok-table.ensures.buffer;
  holds = c.in_ok-table.ensures.rows;
  forward = λ ride on off is. ride_forward c.args.network.now c.requires.rules.network ride on off is;
}
