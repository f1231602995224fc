use Rattle.move_model.specs.Network.{IsNetwork, IsNumbered}
use Rattle.plain_search.proofs.Found.{FoundBelow}
use Rattle.plain_search.proofs.answer.point_findings.Given as goal

abbrev pub invariant-loop-k : goal.invariant-loop-k
invariant-loop-k l = IsNetwork l.network → IsNumbered l.network → FoundBelow l.network l.fn.from l.depart l.to l.rows l.k l.found
