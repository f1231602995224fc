use Rattle.std.proofs.Common.{◌∙◌, sym, subst, List}
use Rattle.walk_laws.specs.declared.CoreArc.{CoreArc}
use Rattle.walk_core.specs.Bridge.{AreOthers}
use Rattle.walk_core.proofs.ContractLemmas.{built_clean, ins_clean, outs_clean, built_after, keeps_after, ruled_after, rises_after}
use Rattle.walk_core.proofs.contraction.contract_vertex.Goals as goal

pub bridge_all-requires-clause-built : goal.bridge_all-requires-clause-built
bridge_all-requires-clause-built c =
    built_clean c.args.out.now c.clean.new.self c.args.into.now c.clean-2.new.self c.args.rank.now c.args.m c.requires.built c.requires.left c.clean.ensures c.clean-2.ensures

pub bridge_all-requires-clause-ins : goal.bridge_all-requires-clause-ins
bridge_all-requires-clause-ins c =
    subst (λ (r : List CoreArc). AreOthers c.args.rank.now c.args.m r) (sym (c.as_slice.ensures.value ∙ c.in_ok-copy_row.ensures ∙ c.row.ensures))
    (ins_clean c.args.out.now c.clean.new.self c.args.into.now c.clean-2.new.self c.args.rank.now c.args.m c.requires.built c.requires.left c.clean.ensures c.clean-2.ensures)

pub bridge_all-requires-clause-outs : goal.bridge_all-requires-clause-outs
bridge_all-requires-clause-outs c =
    subst (λ (r : List CoreArc). AreOthers c.args.rank.now c.args.m r) (sym (c.as_slice-2.ensures.value ∙ c.in_ok-copy_row-2.ensures ∙ c.row-2.ensures))
    (outs_clean c.args.out.now c.clean.new.self c.args.into.now c.clean-2.new.self c.args.rank.now c.args.m c.requires.built c.requires.left c.clean.ensures c.clean-2.ensures)

pub returns-clause-built : goal.returns-clause-built
returns-clause-built c =
    built_after c.args.out.now c.clean.new.self c.args.into.now c.clean-2.new.self c.args.rank.now c.args.m c.requires.built c.requires.left c.clean.ensures c.clean-2.ensures
    c.bridge_all.new.out c.bridge_all.new.into c.as_slice.result.now c.as_slice-2.result.now c.args.count c.requires.m c.requires.room c.requires.counted
    (c.as_slice.ensures.value ∙ c.in_ok-copy_row.ensures ∙ c.row.ensures) (c.as_slice-2.ensures.value ∙ c.in_ok-copy_row-2.ensures ∙ c.row-2.ensures)
    c.in_ok-bridge_all.ensures.done

pub returns-clause-keeps : goal.returns-clause-keeps
returns-clause-keeps c = λ graph keeps.
    keeps_after c.args.out.now c.clean.new.self c.args.into.now c.clean-2.new.self c.args.rank.now c.args.m c.requires.built c.requires.left c.clean.ensures c.clean-2.ensures
    c.bridge_all.new.out c.bridge_all.new.into c.as_slice.result.now c.as_slice-2.result.now c.args.count c.requires.m c.requires.room c.requires.counted
    (c.as_slice.ensures.value ∙ c.in_ok-copy_row.ensures ∙ c.row.ensures) (c.as_slice-2.ensures.value ∙ c.in_ok-copy_row-2.ensures ∙ c.row-2.ensures)
    c.in_ok-bridge_all.ensures.done graph keeps

pub returns-clause-ruled : goal.returns-clause-ruled
returns-clause-ruled c = λ graph keeps ruled.
    ruled_after c.args.out.now c.clean.new.self c.args.into.now c.clean-2.new.self c.args.rank.now c.args.m c.requires.built c.requires.left c.clean.ensures c.clean-2.ensures
    c.bridge_all.new.out c.bridge_all.new.into c.as_slice.result.now c.as_slice-2.result.now c.args.count c.requires.m c.requires.room c.requires.counted
    (c.as_slice.ensures.value ∙ c.in_ok-copy_row.ensures ∙ c.row.ensures) (c.as_slice-2.ensures.value ∙ c.in_ok-copy_row-2.ensures ∙ c.row-2.ensures)
    c.in_ok-bridge_all.ensures.done graph keeps ruled

pub returns-clause-rises : goal.returns-clause-rises
returns-clause-rises c = λ rises.
    rises_after c.args.out.now c.clean.new.self c.args.into.now c.clean-2.new.self c.args.rank.now c.args.m c.requires.built c.requires.left c.clean.ensures c.clean-2.ensures
    c.bridge_all.new.out c.bridge_all.new.into c.as_slice.result.now c.as_slice-2.result.now c.args.count c.requires.m c.requires.room c.requires.counted
    (c.as_slice.ensures.value ∙ c.in_ok-copy_row.ensures ∙ c.row.ensures) (c.as_slice-2.ensures.value ∙ c.in_ok-copy_row-2.ensures ∙ c.row-2.ensures)
    c.in_ok-bridge_all.ensures.done rises
