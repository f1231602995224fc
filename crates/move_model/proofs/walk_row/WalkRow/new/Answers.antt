use Rattle.move_model.specs.Optional.{optional_of}
use Rattle.move_model.proofs.WalkRowLemmas.{map-replicate}
use Rattle.move_model.proofs.walk_row.WalkRow.new.Goals as goal

pub returns : goal.returns
returns c = rw (c.in_ok-seconds.ensures.items_if_clones_equal (λ y is. is)) (map-replicate optional_of _ _)
