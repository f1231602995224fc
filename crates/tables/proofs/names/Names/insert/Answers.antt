use Rattle.std.proofs.Common.{◌∙◌}
use Rattle.tables.proofs.NameLemmas.{new-is}
use Rattle.tables.proofs.names.Names.insert.Goals as goal

pub returns-clause-added : goal.returns-clause-added
returns-clause-added c = rw (← c.self.view_is, ← c.in_ok-name.ensures.items) (c.in-Ok.ensures.added ∙ new-is c.self.inside.set.keys c.in_ok-name.name.items)
