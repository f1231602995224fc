use Rattle.std.proofs.Common.{take, []}
use Rattle.std.specs.Prelude.{All}
use Rattle.walk_hierarchy.specs.Hierarchy.{IsArcDown}
use Rattle.network_rules.proofs.arcs.all_down.Given as goal

abbrev pub invariant-loop-i : goal.invariant-loop-i
invariant-loop-i l = All (IsArcDown (record { ranks = l.ranks; up = []; down = [] })) (take l.i l.arcs)
