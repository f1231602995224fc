use Rattle.std.proofs.Common.{◌≤◌, slice_index}
use Rattle.raptor_rounds.proofs.scan.walked_back.Given as goal

abbrev pub invariant-loop-row : goal.invariant-loop-row
invariant-loop-row l = record {
  within : l.row ≤ l.from;
  caught : l.wanted ≤ slice_index l.departures l.row;
}

abbrev pub decreases-loop-row : goal.decreases-loop-row
decreases-loop-row l = l.row
