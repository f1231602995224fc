use Rattle.std.proofs.Common.{refl}
use Rattle.walk_hierarchy.proofs.LabelLaws.{none_of}
use Rattle.walk_hierarchy.proofs.labels.Labels.new.Goals as goal

pub returns : goal.returns
returns c = none_of _ _ _ (c.in_ok-marks.ensures.items_if_clones_equal (λ y is. is)) refl
