use Rattle.std.proofs.Common.{◌∙◌}
use Rattle.tables.proofs.NameLemmas.{place-is}
use Rattle.tables.proofs.names.Names.place.Goals as goal

pub returns : goal.returns
returns c = rw (← c.self.view_is) (c.get_index_of.ensures.index ∙ place-is c.self.inside.set.keys c.args.name.now)
