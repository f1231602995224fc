use Rattle.walk_checks.proofs.hierarchies.sums_in.Given as goal

abbrev pub ghosts-has_sums : goal.ghosts-has_sums
ghosts-has_sums a = record { name = a.blank.name; parts = a.blank.parts }
