use Rattle.walk_hierarchy.proofs.hierarchy.Hierarchy.names.Goals as goal

pub returns : goal.returns
returns c = rw (c.as_slice.ensures.value, ← c.self.view_is) c.self.invariant.named
