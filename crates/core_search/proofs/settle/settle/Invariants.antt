use Rattle.core_search.specs.Settle.{IsSearch, free}
use Rattle.core_search.proofs.settle.settle.Given as goal

abbrev pub invariant-vertices : goal.invariant-vertices
invariant-vertices l = IsSearch l.core l.initial.waiting l.labels l.waiting

abbrev pub decreases-vertices : goal.decreases-vertices
decreases-vertices l = free l.labels
