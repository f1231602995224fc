use Rattle.range_search.proofs.OpenLemmas.{OpenState}
use Rattle.range_search.proofs.opening.open_spans.Given as goal

abbrev pub invariant-loop-k : goal.invariant-loop-k
invariant-loop-k l = OpenState l.levels l.leads l.depart l.k l.fn.pending l.pending
