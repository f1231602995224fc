use Rattle.walk_hierarchy.proofs.LabelLaws.{nodes_all, nodes_only}
use Rattle.walk_hierarchy.proofs.labels.Labels.nodes.Goals as goal

pub returns-clause-all : goal.returns-clause-all
returns-clause-all c = rw (c.as_slice.ensures.value, ← c.self.view_is) (nodes_all _ _ _ c.self.invariant)

pub returns-clause-only : goal.returns-clause-only
returns-clause-only c = rw (c.as_slice.ensures.value, ← c.self.view_is) (nodes_only _ _ _ c.self.invariant)
