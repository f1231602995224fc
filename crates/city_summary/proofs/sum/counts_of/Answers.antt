use Rattle.city_summary.proofs.sum.counts_of.Goals as goal

pub returns-in-Range-clause-room : goal.returns-in-Range-clause-room
returns-in-Range-clause-room g c =
    λ most room. record { points = room.points; ranges = c.counts_of_range.ensures.room most room.ranges }
