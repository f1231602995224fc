use Rattle.std.proofs.Common.{◌≡◌, ◌+◌, ◌≤◌, length, drop, take}
use Rattle.refusals.specs.Refusal.{Accepted}
use Rattle.street_graph.specs.Gr.{gr_lines, gr_rules, spot_at}
use Rattle.street_graph.specs.GrDraft.{HasRead}
use Rattle.street_graph.proofs.gr.read_lines.Given as goal

abbrev pub invariant-loop-rest : goal.invariant-loop-rest
invariant-loop-rest l = record {
  left : length l.rest ≤ length l.text;
  counted : l.row + length l.rest ≤ length l.text;
  within : l.row ≤ length (gr_lines l.text);
  ahead : drop l.row (gr_lines l.text) ≡ gr_lines l.rest;
  hold : Accepted gr_rules (spot_at (gr_lines l.text)) l.row;
  read : HasRead l.draft (take l.row (gr_lines l.text));
}

abbrev pub decreases-loop-rest : goal.decreases-loop-rest
decreases-loop-rest l = length l.rest
