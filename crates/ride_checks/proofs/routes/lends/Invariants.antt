use Rattle.ride_checks.proofs.routes.lends.Given as goal

abbrev pub ghosts-opens_first : goal.ghosts-opens_first
ghosts-opens_first a = record { name = a.opens.name; parts = a.opens.parts }
