use Rattle.std.proofs.Common.{◌≡◌, ◌+◌, ◌≤◌, length, drop, take}
use Rattle.refusals.specs.Refusal.{Accepted}
use Rattle.street_graph.specs.Co.{co_lines, co_rules, co_spot_at}
use Rattle.street_graph.specs.CoDraft.{HasPlaced}
use Rattle.street_graph.proofs.co.read_lines.Given as goal

abbrev pub invariant-loop-rest : goal.invariant-loop-rest
invariant-loop-rest l = record {
  left : length l.rest ≤ length l.text;
  counted : l.row + length l.rest ≤ length l.text;
  within : l.row ≤ length (co_lines l.text);
  ahead : drop l.row (co_lines l.text) ≡ co_lines l.rest;
  hold : Accepted (co_rules l.nodes) (co_spot_at (co_lines l.text)) l.row;
  read : HasPlaced l.nodes l.draft (take l.row (co_lines l.text));
}

abbrev pub decreases-loop-rest : goal.decreases-loop-rest
decreases-loop-rest l = length l.rest
