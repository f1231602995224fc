use Rattle.walk_order.specs.Lists.{AreArcsOf}
use Rattle.walk_order.proofs.arcs.gathered.Given as goal

abbrev pub invariant-loop-place : goal.invariant-loop-place
invariant-loop-place l = AreArcsOf l.side l.core l.place l.arcs.items
