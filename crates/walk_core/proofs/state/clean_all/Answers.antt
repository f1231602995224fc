use Rattle.std.proofs.Common.{arith, ℕ, subst, inl, inr}
use Rattle.std.proofs.lemmas.Bool.{cases_eq}
use Rattle.walk_laws.specs.Sums.{HasArc}
use Rattle.walk_core.specs.Row.{is_last}
use Rattle.walk_core.proofs.state.clean_all.Goals as goal

pub loop-at-preserved : goal.loop-at-preserved
loop-at-preserved c = record {
  cleans = c.clean_if_left.ensures.cleans c.args.rows.now c.loop-at.invariant.cleans;
  clean = λ v q k low left arc. elim (cases_eq v c.loop-at.at) [
    | inl e ↦
        c.clean_if_left.ensures.clean q k (subst (λ (x : ℕ). is_last c.args.rank.now x) e left)
        (subst (λ (x : ℕ). HasArc c.clean_if_left.new.rows x q k) e arc)
    | inr ne ↦ c.loop-at.invariant.clean v q k (omega arith) left (c.clean_if_left.ensures.others v q k arc)
  ];
}

pub returns-clause-clean : goal.returns-clause-clean
returns-clause-clean c = λ v q l low left arc. c.loop-at.invariant.clean v q l (omega (arith, low)) left arc
