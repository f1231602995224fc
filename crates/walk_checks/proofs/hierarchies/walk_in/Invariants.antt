use Rattle.walk_checks.proofs.hierarchies.walk_in.Given as goal

abbrev pub ghosts-has_walk : goal.ghosts-has_walk
ghosts-has_walk a = record { name = a.blank.name; parts = a.blank.parts }
