use Rattle.std.proofs.Common.{◌≡◌, ◌+◌, ℕ, Bool, List, false, true, slice_index_or, sym, ap, subst, ◌∙◌}
use Rattle.std.specs.Prelude.{All}
use Rattle.walk_core.specs.Core.{Holds, IsContraction}
use Rattle.walk_core.specs.State.{IsStored, contraction_of}
use Rattle.walk_core.proofs.CoreLemmas.{stored_last, contraction_last, kept_last}
use Rattle.walk_core.proofs.whole.fill.Goals as goal

pub returns-clause-stored : goal.returns-clause-stored
returns-clause-stored c =
    subst (λ (n : ℕ). IsStored n c.clean_all.new.rows c.contract_some.new.into c.contract_some.new.rank c.contract_some.new.contracted.items) (sym c.requires.nodes)
    (stored_last c.args.graph.now c.arcs-arcs.ensures.limits c.as_slice.result.now c.lay_streets.new.out c.lay_streets.new.into c.args.rank.now
    c.contract_some.new.out c.contract_some.new.into c.contract_some.new.rank c.contract_some.new.contracted.items c.clean_all.new.rows (c.requires.many ∙ ap (λ (n : ℕ). n + 1) c.requires.nodes)
    c.in_ok-contract_some.ensures.advances c.in_ok-contract_some.ensures.sound
    (record {
      keeps = c.in_ok-lay_streets.ensures.keeps c.args.graph.now (sym c.arcs-arcs.ensures.value);
      ruled = c.in_ok-lay_streets.ensures.ruled c.args.graph.now (sym c.arcs-arcs.ensures.value);
    })
    c.clean_all.ensures.cleans c.clean_all.ensures.clean)

pub returns-clause-contraction : goal.returns-clause-contraction
returns-clause-contraction c =
    subst (λ (n : ℕ). IsContraction c.args.graph.now (contraction_of n c.clean_all.new.rows c.contract_some.new.into c.contract_some.new.rank c.contract_some.new.contracted.items)) (sym c.requires.nodes)
    (contraction_last c.args.graph.now c.arcs-arcs.ensures.limits c.as_slice.result.now c.lay_streets.new.out c.lay_streets.new.into c.args.rank.now
    c.contract_some.new.out c.contract_some.new.into c.contract_some.new.rank c.contract_some.new.contracted.items c.clean_all.new.rows (c.requires.many ∙ ap (λ (n : ℕ). n + 1) c.requires.nodes)
    c.in_ok-contract_some.ensures.advances c.in_ok-contract_some.ensures.sound
    (record {
      keeps = c.in_ok-lay_streets.ensures.keeps c.args.graph.now (sym c.arcs-arcs.ensures.value);
      ruled = c.in_ok-lay_streets.ensures.ruled c.args.graph.now (sym c.arcs-arcs.ensures.value);
    })
    c.clean_all.ensures.cleans c.clean_all.ensures.clean)

pub returns-clause-kept : goal.returns-clause-kept
returns-clause-kept c =
    subst (λ (n : ℕ). All (λ v. Holds (contraction_of n c.clean_all.new.rows c.contract_some.new.into c.contract_some.new.rank c.contract_some.new.contracted.items) v) c.args.keep.now) (sym c.requires.nodes)
    (kept_last c.args.graph.now c.arcs-arcs.ensures.limits c.as_slice.result.now c.lay_streets.new.out c.lay_streets.new.into c.args.rank.now
    c.contract_some.new.out c.contract_some.new.into c.contract_some.new.rank c.contract_some.new.contracted.items c.clean_all.new.rows (c.requires.many ∙ ap (λ (n : ℕ). n + 1) c.requires.nodes)
    c.in_ok-contract_some.ensures.advances c.in_ok-contract_some.ensures.sound c.args.keep.now c.requires.unranked c.requires.keep
    (subst (λ (marks : List Bool). All (λ v. slice_index_or marks v.0 false ≡ true) c.args.keep.now) (sym c.as_slice.ensures.value) c.in_ok-marks.ensures.marked))
