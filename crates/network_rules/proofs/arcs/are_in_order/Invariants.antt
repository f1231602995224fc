use Rattle.std.specs.List.{AllAdjacentBelow}
use Rattle.walk_hierarchy.specs.Hierarchy.{IsBefore}
use Rattle.network_rules.proofs.arcs.are_in_order.Given as goal

abbrev pub invariant-loop-i : goal.invariant-loop-i
invariant-loop-i l = AllAdjacentBelow IsBefore l.arcs l.i
