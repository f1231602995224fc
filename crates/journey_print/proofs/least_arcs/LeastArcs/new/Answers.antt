use Rattle.std.proofs.Common.{rules}
use Rattle.std.proofs.lemmas.List.Sorted.{IsNonDecreasingBy-from_sort_by_key}
use Rattle.journey_print.specs.Arcs.{key_of}
use Rattle.journey_print.proofs.IndexLemmas.{TellsLeastArcs-permutation}
use Rattle.journey_print.proofs.least_arcs.LeastArcs.new.Goals as goal

pub invariant_of-result : goal.invariant_of-result
invariant_of-result c = IsNonDecreasingBy-from_sort_by_key key_of _ c.sort_unstable_by_key.ensures.sorted (λ a r q k. search rules)

pub returns : goal.returns
returns c =
    rw c.in_ok-by_ends.ensures.items at
    (TellsLeastArcs-permutation c.in_ok-by_ends.by_ends.items c.sort_unstable_by_key.new.self.items c.sort_unstable_by_key.ensures.permutation)
