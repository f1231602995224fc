use Rattle.two_trip_rides.proofs.FirstLemmas.{own_least}
use Rattle.two_trip_rides.proofs.first.ride_own.Goals as goal

pub returns-in-Some-clause-known : goal.returns-in-Some-clause-known
returns-in-Some-clause-known c =
    own_least _ _ _ _ c.in-Some.row _ c.requires.whole c.in-Some.ensures.row.is_row (λ p is. c.in-Some.ensures.first p is) c.leave_own.ensures.known

pub returns-in_default-clause-known : goal.returns-in_default-clause-known
returns-in_default-clause-known c = record { each = λ x a r. absurd (c.in_default.ensures.first r.row r.is_own) }
