use Rattle.walk_checks.proofs.journeys.builds_over.Given as goal

abbrev pub ghosts-builds : goal.ghosts-builds
ghosts-builds a = record { name = a.blank.name; parts = a.blank.parts }
