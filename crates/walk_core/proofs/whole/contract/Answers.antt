use Rattle.std.proofs.Common.{ℕ, List, sym, subst, arith}
use Rattle.std.proofs.lemmas.List.{take_at}
use Rattle.walk_core.specs.State.{IsStored}
use Rattle.walk_core.proofs.whole.contract.Goals as goal

pub invariant_of-result : goal.invariant_of-result
invariant_of-result c =
    subst (λ (r : List ℕ). IsStored c.nodes-nodes.result c.fill.new.out c.fill.new.into r c.fill.new.contracted.items)
    (sym (take_at c.fill.new.rank _ c.in_ok-rank.rank.len (omega (arith, c.fill.auto.rank, c.as_mut_slice.ensures.len)))) c.in_ok-fill.ensures.stored
