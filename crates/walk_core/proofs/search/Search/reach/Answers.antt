use Rattle.std.proofs.Common.{rules}
use Rattle.walk_core.proofs.LabelLemmas.{AllLabels-set, IsLabel-more}
use Rattle.walk_core.proofs.search.Search.reach.Goals as goal

pub returns-clause-labels : goal.returns-clause-labels
returns-clause-labels c = λ out from v stands label all.
    AllLabels-set out c.args.rank.now c.args.avoid from c.args.self.now.labels.items c.args.self.now.run c.args.arc.to.0 _ (search rules)
    (IsLabel-more out c.args.rank.now c.args.avoid from v c.args.reached c.args.arc label stands (search rules) (search rules)) all
