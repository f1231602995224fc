use Rattle.std.proofs.Common.{rules}
use Rattle.std.proofs.lemmas.List.Sorted.{IsNonDecreasingBy-from_sort_by_key}
use Rattle.bucket_walks.specs.Gathered.{key_of}
use Rattle.bucket_walks.proofs.gather.sort_entries.Goals as goal

pub returns-clause-rise : goal.returns-clause-rise
returns-clause-rise c = IsNonDecreasingBy-from_sort_by_key key_of _ c.sort_unstable_by_key.ensures.sorted (λ a r q k. search rules)
