use Rattle.steps.proofs.tests.sums.Given as goal

abbrev pub ghosts-sum_over : goal.ghosts-sum_over
ghosts-sum_over g a = record { name = a.blank.name; parts = a.blank.parts }
