use Rattle.walk_checks.proofs.buckets.give_walks.Given as goal

abbrev pub ghosts-are_walks : goal.ghosts-are_walks
ghosts-are_walks a = record { name = a.blank.name; parts = a.blank.parts }
