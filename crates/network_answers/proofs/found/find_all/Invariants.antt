use Rattle.std.proofs.Common.{◌≡◌}
use Rattle.network_answers.specs.Gains.{sums_of}
use Rattle.network_answers.specs.Found.{IsFoundFor, IsTicked}
use Rattle.network_answers.proofs.found.find_all.Given as goal

abbrev pub invariant-loop-before : goal.invariant-loop-before
invariant-loop-before g l = record {
  found : IsFoundFor l.compiled (sums_of l.asked) l.from l.depart l.to l.before l.found;
  nodes : l.work.nodes ≡ l.fn.work.nodes;
  ticks : IsTicked l.compiled (sums_of l.asked) l.depart l.before l.fn.searches l.searches;
}
