use Rattle.plain_search.proofs.Riding.{RidingAll}
use Rattle.plain_search.proofs.rides.ride_on.Given as goal

abbrev pub invariant-loop-index : goal.invariant-loop-index
invariant-loop-index l = RidingAll l.network l.before l.fn.row l.index l.row
