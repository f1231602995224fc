use Rattle.std.proofs.Common.{rules}
use Rattle.std.proofs.lemmas.List.Sorted.{answers_always}
use Rattle.trip_calls.specs.declared.kept.KeptCall.{KeptCall}
use Rattle.trip_calls.proofs.OrderLemmas.{ordered}
use Rattle.trip_calls.proofs.order.sort_calls.Goals as goal

pub returns-clause-ok : goal.returns-clause-ok
returns-clause-ok c =
    ordered c.sort_by_key.result _ _ c.sort_by_key.ensures.permutation c.sort_by_key.ensures.sorted (λ a r f' k. search rules)
    (c.sort_by_key.ensures.stable (λ (call : KeptCall). call.sequence) (answers_always _ _ _ (λ f a r g h. search rules)))
