use Rattle.std.proofs.Common.{rules}
use Rattle.walk_core.proofs.StateLemmas.{CleansLeft-more}
use Rattle.walk_core.proofs.ContractLemmas.{arc_from_clean}
use Rattle.walk_core.proofs.state.clean_if_left.Goals as goal

pub returns-then-is_left-clause-cleans : goal.returns-then-is_left-clause-cleans
returns-then-is_left-clause-cleans c = λ first done. CleansLeft-more c.args.rank.now first c.args.rows.now c.clean.new.self c.args.node.0 (search rules) done c.clean.ensures

pub returns-then-is_left-clause-others : goal.returns-then-is_left-clause-others
returns-then-is_left-clause-others c = arc_from_clean c.args.rows.now c.clean.new.self c.args.node.0 c.args.rank.now c.clean.ensures
