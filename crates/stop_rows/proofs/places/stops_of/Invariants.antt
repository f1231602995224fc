use Rattle.stop_rows.proofs.PlaceLemmas.{IsStopsUpto}
use Rattle.stop_rows.proofs.places.stops_of.Given as goal

abbrev pub invariant-loop-x : goal.invariant-loop-x
invariant-loop-x l = IsStopsUpto l.places l.place l.x l.row.items
