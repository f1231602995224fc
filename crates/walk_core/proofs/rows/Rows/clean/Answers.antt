use Rattle.walk_core.proofs.RowLemmas.{Cleans-viewed, KeepsLeft-filter}
use Rattle.walk_core.proofs.rows.Rows.clean.Goals as goal

pub returns : goal.returns
returns c =
    Cleans-viewed c.self.inside.rows.items c.args.self.now c.args.at c.index_mut.result.now c.clean_in.new.row c.args.rank.now c.self.view_is c.requires c.index_mut.ensures.value
    (KeepsLeft-filter c.args.rank.now c.index_mut.result.now.items c.clean_in.new.row.items c.clean_in.ensures)
