use Rattle.std.proofs.Common.{take, []}
use Rattle.std.specs.Prelude.{All}
use Rattle.walk_hierarchy.specs.Hierarchy.{IsArcUp}
use Rattle.network_rules.proofs.arcs.all_up.Given as goal

abbrev pub invariant-loop-i : goal.invariant-loop-i
invariant-loop-i l = All (IsArcUp (record { ranks = l.ranks; up = []; down = [] })) (take l.i l.arcs)
