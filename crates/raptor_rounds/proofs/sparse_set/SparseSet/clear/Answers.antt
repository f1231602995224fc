use Rattle.std.proofs.Common.{◌∙◌, false, length, nat_lt, sym, ap}
use Rattle.std.specs.Prelude.{replicate}
use Rattle.std.proofs.lemmas.List.{length-map}
use Rattle.raptor_rounds.proofs.SetLemmas.{none_in}
use Rattle.raptor_rounds.proofs.sparse_set.SparseSet.clear.Goals as goal

pub returns : goal.returns
returns c =
    none_in c.self.inside.places.items
    ∙ ap (λ n. replicate n false) (sym (length-map c.self.inside.places.items (λ place. nat_lt place c.self.inside.count)) ∙ ap length c.self.view_is)
