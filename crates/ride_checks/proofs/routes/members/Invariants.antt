use Rattle.ride_checks.proofs.routes.members.Given as goal

abbrev pub ghosts-opened : goal.ghosts-opened
ghosts-opened a = record { name = a.opens.name; parts = a.opens.parts }
