use Rattle.std.proofs.Common.{◌≡◌, drop}
use Rattle.journey_print.specs.Legs.{lesser, least_arc}
use Rattle.journey_print.proofs.arcs.least_arc.Given as goal

abbrev pub invariant-loop-arc : goal.invariant-loop-arc
invariant-loop-arc l = lesser l.least (least_arc (drop l.arc-index l.arcs) l.from l.to) ≡ least_arc l.arcs l.from l.to
