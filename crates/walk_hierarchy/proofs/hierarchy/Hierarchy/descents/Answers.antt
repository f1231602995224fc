use Rattle.walk_hierarchy.proofs.hierarchy.Hierarchy.descents.Goals as goal

pub returns-clause-rows : goal.returns-clause-rows
returns-clause-rows c = rw (← c.self.view_is) c.self.invariant.ending

pub returns-clause-rules : goal.returns-clause-rules
returns-clause-rules c = rw (← c.self.view_is) c.self.invariant.rules
