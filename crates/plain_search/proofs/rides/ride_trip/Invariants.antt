use Rattle.plain_search.proofs.Riding.{Riding}
use Rattle.plain_search.proofs.rides.ride_trip.Given as goal

abbrev pub invariant-loop-index : goal.invariant-loop-index
invariant-loop-index l = Riding l.network l.before l.trip l.fn.row l.index l.boarded l.row
