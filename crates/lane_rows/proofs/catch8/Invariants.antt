use Rattle.std.proofs.Common.{◌≡◌, map, take}
use Rattle.lane_rows.specs.Rows.{count_below}
use Rattle.lane_rows.proofs.catch8.Given as goal

abbrev pub invariant-loop-x : goal.invariant-loop-x
invariant-loop-x l = l.found ≡ map (count_below (take l.x-index l.row)) l.ready
