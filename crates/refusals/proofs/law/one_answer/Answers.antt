use Rattle.refusals.proofs.RefusalLemmas.{file_not_both, one_file_refusal}
use Rattle.refusals.proofs.law.one_answer.Goals as goal

pub returns : goal.returns
returns c = record {
  one = λ whole file rules at n row other cause another r s. one_file_refusal whole file rules at n row other cause another r s;
  not_both = λ whole file rules at n row cause a r. file_not_both whole file rules at n row cause a r;
}
