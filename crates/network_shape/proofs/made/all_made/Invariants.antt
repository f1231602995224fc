use Rattle.std.proofs.Common.{take}
use Rattle.std.specs.Prelude.{All}
use Rattle.walk_hierarchy.specs.Hierarchy.{IsMade}
use Rattle.network_shape.proofs.made.all_made.Given as goal

abbrev pub invariant-loop-i : goal.invariant-loop-i
invariant-loop-i l = All (IsMade (record { ranks = l.ranks; up = l.up; down = l.down })) (take l.i l.arcs)
