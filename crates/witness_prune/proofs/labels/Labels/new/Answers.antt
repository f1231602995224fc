use Rattle.std.proofs.Common.{◌∙◌, length, ap}
use Rattle.std.proofs.lemmas.List.{length-replicate}
use Rattle.piece_laws.specs.Tables.{never}
use Rattle.witness_prune.proofs.NoneLemmas.{due_none}
use Rattle.witness_prune.proofs.labels.Labels.new.Goals as goal

pub returns-clause-due : goal.returns-clause-due
returns-clause-due c = record {
  as_many = ap length c.in_ok-due.ensures ∙ length-replicate c.stops-stops.result never ∙ c.stops-stops.ensures;
  due = due_none _ _ _ c.in_ok-due.due.items c.in_ok-due.ensures;
}
