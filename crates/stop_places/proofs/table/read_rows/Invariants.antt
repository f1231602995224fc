use Rattle.std.proofs.Common.{◌≡◌, ◌≤◌, length, drop, take}
use Rattle.std.specs.Prelude.{All}
use Rattle.refusals.specs.Refusal.{Accepted}
use Rattle.stop_places.specs.Given.{IsGivenBy}
use Rattle.stop_places.specs.Rules.{row_rules, row_behind}
use Rattle.stop_places.proofs.table.read_rows.Given as goal

abbrev pub invariant-rows : goal.invariant-rows
invariant-rows l = record {
  left : l.rows ≡ drop l.number l.fn.rows;
  within : l.number ≤ length l.fn.rows;
  accepted : Accepted (row_rules l.ids l.nodes l.columns) (row_behind l.columns l.fn.rows) l.number;
  given : IsGivenBy l.columns (take l.number l.fn.rows) l.given;
  vertices : All (λ node. (1 ≤ node) × (node ≤ l.nodes)) l.given.nodes;
}

abbrev pub decreases-rows : goal.decreases-rows
decreases-rows l = length l.rows
