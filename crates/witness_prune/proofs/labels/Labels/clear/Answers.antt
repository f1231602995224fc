use Rattle.std.proofs.Common.{◌∙◌, length, ap}
use Rattle.std.proofs.lemmas.List.{length-replicate}
use Rattle.piece_laws.specs.Tables.{never}
use Rattle.witness_prune.proofs.NoneLemmas.{due_none}
use Rattle.witness_prune.proofs.labels.Labels.clear.Goals as goal

pub returns-clause-due : goal.returns-clause-due
returns-clause-due c = λ routes rows was. record {
  as_many = ap length c.clear_seconds.ensures ∙ length-replicate (length c.args.self.now.due.items) never ∙ was.as_many;
  due = due_none routes _ _ c.clear_seconds.new.seconds.items c.clear_seconds.ensures;
}
