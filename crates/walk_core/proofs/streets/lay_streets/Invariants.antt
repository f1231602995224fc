use Rattle.walk_core.specs.Bridge.{view_of, StreetsDone}
use Rattle.walk_core.proofs.streets.lay_streets.Given as goal

abbrev pub invariant-loop-arc : goal.invariant-loop-arc
invariant-loop-arc l = StreetsDone l.arcs l.arc-index (view_of l.out l.into l.rank)
