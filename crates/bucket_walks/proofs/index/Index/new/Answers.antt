use Rattle.bucket_walks.proofs.MapLemmas.{nodes_rise}
use Rattle.bucket_walks.proofs.index.Index.new.Goals as goal

pub starts_of-requires-clause-rise : goal.starts_of-requires-clause-rise
starts_of-requires-clause-rise c = nodes_rise c.args.list.now c.requires.rules.in_order
