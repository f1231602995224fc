use Rattle.std.proofs.Common.{rules}
use Rattle.std.proofs.lemmas.List.Sorted.{IsNonDecreasingBy-from_sort_by_key}
use Rattle.walk_order.specs.Lists.{ends_of}
use Rattle.walk_order.proofs.ListLemmas.{AreArcsOf-permutation, in_order_from_keys}
use Rattle.walk_order.proofs.HierarchyLemmas.{AreRows-of_core}
use Rattle.walk_order.proofs.arcs.in_order.Goals as goal

pub returns-clause-arcs : goal.returns-clause-arcs
returns-clause-arcs c =
    AreArcsOf-permutation c.args.side c.args.core.now c.args.core.now.nodes c.in_ok-arcs.arcs.items c.sort_unstable_by_key.new.self.items
    c.sort_unstable_by_key.ensures.permutation c.in_ok-arcs.ensures.arcs

pub returns-clause-order : goal.returns-clause-order
returns-clause-order c =
    in_order_from_keys c.args.side c.args.core.now (AreRows-of_core c.gathered.ensures.rules.0 c.args.core.now c.gathered.ensures.rules.1 c.args.side)
    c.in_ok-arcs.arcs.items c.sort_unstable_by_key.new.self.items c.sort_unstable_by_key.ensures.permutation c.in_ok-arcs.ensures.arcs
    (IsNonDecreasingBy-from_sort_by_key ends_of _ c.sort_unstable_by_key.ensures.sorted (λ a r q k. search rules))
