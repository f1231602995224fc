use Rattle.range_checks.proofs.spans.opens_one_route_for_eight_departures.Given as goal

abbrev pub ghosts-expect_eight : goal.ghosts-expect_eight
ghosts-expect_eight g a = record { name = a.blank.name; parts = a.blank.parts }
