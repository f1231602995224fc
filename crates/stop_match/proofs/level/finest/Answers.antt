use Rattle.std.proofs.Common.{◌≡◌, ◌∙◌}
use Rattle.std.proofs.lemmas.List.Sorted.{length_permutation}
use Rattle.std.proofs.lemmas.Result.{IfOk-weaker}
use Rattle.stop_match.specs.Place.{AreCellsOf, ArePointCells}
use Rattle.stop_match.proofs.PlaceLemmas.{all-places, point-cells, whole-slice}
use Rattle.stop_match.proofs.level.finest.Goals as goal

pub point_cells-requires : goal.point_cells-requires
point_cells-requires c =
    let sorted = c.arrange.new.places in
    let same : c.as_slice.result.now ≡ sorted = c.as_slice.ensures.value ∙ whole-slice _ sorted _ (length_permutation _ _ c.arrange.ensures ∙ c.as_mut_slice.ensures.len) in
    rw same (all-places c.in_ok-places.places.items sorted _ c.in_ok-places.ensures (rw c.as_mut_slice.ensures.value at c.arrange.ensures))

pub returns : goal.returns
returns c =
    let points = c.args.points.now in
    let sorted = c.arrange.new.places in
    let same : c.as_slice.result.now ≡ sorted = c.as_slice.ensures.value ∙ whole-slice _ sorted _ (length_permutation _ _ c.arrange.ensures ∙ c.as_mut_slice.ensures.len) in
    IfOk-weaker c.point_cells.result (λ cells. AreCellsOf cells sorted points) (λ cells. ArePointCells cells points)
    (λ cells h. point-cells c.in_ok-places.places.items sorted points cells c.in_ok-places.ensures (rw c.as_mut_slice.ensures.value at c.arrange.ensures) h)
    (rw same at c.point_cells.ensures)
