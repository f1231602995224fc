use Rattle.std.proofs.Common.{◌≡◌, ℕ, List, length, arith, sym, ap, subst, ◌∙◌}
use Rattle.std.proofs.lemmas.List.{take_at}
use Rattle.move_model.specs.declared.network.NodeNo.{NodeNo}
use Rattle.move_model.specs.Streets.{Streets}
use Rattle.walk_laws.specs.declared.CoreArc.{CoreArc}
use Rattle.walk_core.specs.Core.{Contraction, Holds, IsContraction}
use Rattle.walk_core.specs.Bridge.{view_of}
use Rattle.walk_core.specs.State.{contraction_of, IsRight, IsStored}
use Rattle.walk_core.proofs.RestLemmas.{contraction_rest, stored_rest, none_rest}
use Rattle.walk_core.proofs.rest.contract_rest.Goals as goal

-- what was right before is right after, by the name of the list of ranks
right_by : {out into out' into' : List (List CoreArc)} {rank slice rank' : List ℕ} → slice ≡ rank
    → ((graph : Streets) → IsRight graph (view_of out into slice) → IsRight graph (view_of out' into' rank'))
    → (graph : Streets) → IsRight graph (view_of out into rank) → IsRight graph (view_of out' into' rank')
right_by {out} {into} e right graph was = right graph (subst (λ (r : List ℕ). IsRight graph (view_of out into r)) (sym e) was)

pub invariant_of-result : goal.invariant_of-result
invariant_of-result c =
    let many : length c.contract_left.new.rank ≡ length c.core.inside.rank.items = c.contract_left.auto.rank ∙ ap length c.as_mut_slice.ensures.value in
    subst (λ (r : List ℕ). IsStored c.core.inside.nodes c.contract_left.new.out c.contract_left.new.into r c.contract_left.new.contracted.items)
    (sym (take_at c.contract_left.new.rank _ c.core.inside.rank.len (omega (arith, c.contract_left.auto.rank, c.as_mut_slice.ensures.len))))
    (stored_rest c.core.inside.nodes c.core.inside.out c.core.inside.into c.contract_left.new.out c.contract_left.new.into c.core.inside.rank.items c.contract_left.new.rank
    c.core.inside.contracted.items c.contract_left.new.contracted.items many (right_by c.as_mut_slice.ensures.value c.in_ok-contract_left.ensures.right) c.in_ok-contract_left.ensures.sound c.in_ok-contract_left.ensures.gone c.core.invariant)

pub returns-clause-contraction : goal.returns-clause-contraction
returns-clause-contraction c = λ graph was.
    let many : length c.contract_left.new.rank ≡ length c.core.inside.rank.items = c.contract_left.auto.rank ∙ ap length c.as_mut_slice.ensures.value in
    subst (λ (r : List ℕ). IsContraction graph (contraction_of c.core.inside.nodes c.contract_left.new.out c.contract_left.new.into r c.contract_left.new.contracted.items))
    (sym (take_at c.contract_left.new.rank _ c.core.inside.rank.len (omega (arith, c.contract_left.auto.rank, c.as_mut_slice.ensures.len))))
    (contraction_rest c.core.inside.nodes c.core.inside.out c.core.inside.into c.contract_left.new.out c.contract_left.new.into c.core.inside.rank.items c.contract_left.new.rank
    c.core.inside.contracted.items c.contract_left.new.contracted.items many (right_by c.as_mut_slice.ensures.value c.in_ok-contract_left.ensures.right) c.in_ok-contract_left.ensures.sound c.in_ok-contract_left.ensures.gone graph c.core.invariant.ranks
    (subst (λ (core : Contraction). IsContraction graph core) (sym c.core.view_is) was))

pub returns-clause-none : goal.returns-clause-none
returns-clause-none c =
    let many : length c.contract_left.new.rank ≡ length c.core.inside.rank.items = c.contract_left.auto.rank ∙ ap length c.as_mut_slice.ensures.value in
    subst (λ (r : List ℕ). (v : NodeNo) → Holds (contraction_of c.core.inside.nodes c.contract_left.new.out c.contract_left.new.into r c.contract_left.new.contracted.items) v → ⊥)
    (sym (take_at c.contract_left.new.rank _ c.core.inside.rank.len (omega (arith, c.contract_left.auto.rank, c.as_mut_slice.ensures.len))))
    (none_rest c.core.inside.nodes c.core.inside.out c.core.inside.into c.contract_left.new.out c.contract_left.new.into c.core.inside.rank.items c.contract_left.new.rank
    c.core.inside.contracted.items c.contract_left.new.contracted.items many (right_by c.as_mut_slice.ensures.value c.in_ok-contract_left.ensures.right) c.in_ok-contract_left.ensures.sound c.in_ok-contract_left.ensures.gone c.core.invariant.ranks)
