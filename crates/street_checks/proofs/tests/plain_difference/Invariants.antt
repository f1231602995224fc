use Rattle.street_checks.proofs.tests.plain_difference.Given as goal

abbrev pub ghosts-found_difference : goal.ghosts-found_difference
ghosts-found_difference a = record { name = a.blank.name; parts = a.blank.parts }
