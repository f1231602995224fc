use Rattle.walk_hierarchy.proofs.unfolding.path.Goals as goal

pub returns-in-None-clause-none : goal.returns-in-None-clause-none
returns-in-None-clause-none g c = rw c.in-None.is at c.in_ok-timed.ensures.none
