use Rattle.std.proofs.Common.{List, Option}
use Rattle.core_search.specs.declared.label.Label.{Label}
use Rattle.core_search.specs.Settle.{IsLeaving}
use Rattle.core_search.proofs.settle.leave.Given as goal

abbrev pub invariant-loop-arc : goal.invariant-loop-arc
invariant-loop-arc l = (old : List (Option Label)) → IsLeaving l.core old l.labels l.fn.waiting l.fn.at.0 l.label 0 → IsLeaving l.core old l.labels l.waiting l.fn.at.0 l.label l.arc-index
