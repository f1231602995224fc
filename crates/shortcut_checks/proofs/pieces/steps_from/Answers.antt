use Rattle.std.proofs.Common.{arith}
use Rattle.shortcut_checks.proofs.pieces.steps_from.Goals as goal

pub new-requires-2 : goal.new-requires-2
new-requires-2 c = record {
  rules = c.requires.rules;
  few = omega (arith, c.requires.few);
  rows_are = c.in_ok-rows.ensures;
  table_is = c.requires.table;
  routes_are = c.requires.routes;
}
