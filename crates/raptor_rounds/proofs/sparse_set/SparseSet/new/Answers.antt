use Rattle.std.proofs.Common.{◌∙◌, false, ap}
use Rattle.std.specs.Prelude.{replicate}
use Rattle.raptor_rounds.proofs.SetLemmas.{none_in}
use Rattle.raptor_rounds.proofs.sparse_set.SparseSet.new.Goals as goal

pub returns : goal.returns
returns c = none_in c.in_ok-places.places.items ∙ ap (λ n. replicate n false) c.in_ok-places.ensures.as_many
