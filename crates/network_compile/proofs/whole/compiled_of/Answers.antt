use Rattle.move_model.specs.Network.{streets}
use Rattle.network_compile.proofs.ListLemmas.{table_is}
use Rattle.network_compile.proofs.RowLemmas.{stops_stand}
use Rattle.network_compile.proofs.WholeLemmas.{is_right}
use Rattle.network_compile.proofs.whole.compiled_of.Goals as goal

pub shortcuts-requires-clause-table : goal.shortcuts-requires-clause-table
shortcuts-requires-clause-table c = table_is c.args.network c.requires.rules c.in_ok-table.table c.in_ok-table.ensures

pub new-requires-clause-stand : goal.new-requires-clause-stand
new-requires-clause-stand c =
    stops_stand c.args.network c.requires.rules c.in_ok-hierarchy.hierarchy (c.in_ok-hierarchy.ensures.streets (streets c.args.network) c.in_ok-core.ensures.contraction)

pub returns-clause-right : goal.returns-clause-right
returns-clause-right c =
    let g = streets c.args.network in
    is_right _ c.requires.rules c.requires.within c.in_ok-table.ensures c.nodes.ensures.rules (c.in_ok-hierarchy.ensures.streets g c.in_ok-core.ensures.contraction)
    (c.in_ok-hierarchy.ensures.distances g c.in_ok-core.ensures.contraction) c.in_ok-buckets.ensures.rules c.in_ok-buckets.ensures.entries c.in_ok-shortcuts.ensures
