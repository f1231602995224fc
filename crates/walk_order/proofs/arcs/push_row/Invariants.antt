use Rattle.std.proofs.Common.{◌≡◌, ◌++◌, map, take}
use Rattle.walk_order.specs.Lists.{with_ends}
use Rattle.walk_order.proofs.arcs.push_row.Given as goal

abbrev pub invariant-loop-arc : goal.invariant-loop-arc
invariant-loop-arc l = l.arcs.items ≡ l.initial.arcs.items ++ map (with_ends l.side l.node) (take l.arc-index l.row)
