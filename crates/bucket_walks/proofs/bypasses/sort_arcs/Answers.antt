use Rattle.std.proofs.Common.{rules}
use Rattle.std.proofs.lemmas.List.Sorted.{IsNonDecreasingBy-from_sort_by_key}
use Rattle.bucket_walks.specs.declared.bypasses.Bypass.{Bypass}
use Rattle.bucket_walks.proofs.bypasses.sort_arcs.Goals as goal

pub returns-clause-rise : goal.returns-clause-rise
returns-clause-rise c = IsNonDecreasingBy-from_sort_by_key (λ (arc : Bypass). arc.node.0) _ c.sort_unstable_by_key.ensures.sorted (λ a r q k. search rules)
