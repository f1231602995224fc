use Rattle.range_search.proofs.rides.+push_rides.Given as goal

abbrev pub decreases-push_rides : goal.decreases-push_rides
decreases-push_rides l = l.k
