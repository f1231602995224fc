use Rattle.std.proofs.lemmas.List.{map-set}
use Rattle.move_model.specs.Optional.{optional_of}
use Rattle.move_model.proofs.walk_row.WalkRow.set.Goals as goal

pub returns : goal.returns
returns c = rw (← c.self.view_is, ← c.stored.ensures) (map-set optional_of _ _ _)
