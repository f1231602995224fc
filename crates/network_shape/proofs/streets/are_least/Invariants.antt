use Rattle.network_shape.specs.Met.{AreMet}
use Rattle.network_shape.proofs.streets.are_least.Given as goal

abbrev pub invariant-loop-i : goal.invariant-loop-i
invariant-loop-i l = AreMet l.streets l.arcs l.met l.i
