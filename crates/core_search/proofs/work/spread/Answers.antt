use Rattle.std.proofs.Common.{List, Option, subst}
use Rattle.core_search.specs.declared.label.Label.{Label}
use Rattle.core_search.specs.Spread.{IsSpread}
use Rattle.core_search.proofs.SpreadLemmas.{over_graph}
use Rattle.core_search.proofs.work.spread.Goals as goal

pub returns-clause-over_graph : goal.returns-clause-over_graph
returns-clause-over_graph c = λ graph is.
    over_graph graph c.args.core.now c.args.labels.now c.settle.new.labels is c.requires.in_core
    (subst (λ (old : List (Option Label)). IsSpread c.args.core.now old c.settle.new.labels) c.move_to.ensures.waiting c.settle.ensures.spread)
