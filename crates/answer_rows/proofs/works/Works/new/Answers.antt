use Rattle.std.proofs.Common.{subst}
use Rattle.journey_print.specs.Arcs.{TellsLeastArcs}
use Rattle.answer_rows.proofs.RoomLemmas.{room_of, all_have_room}
use Rattle.answer_rows.proofs.works.Works.new.Goals as goal

pub returns : goal.returns
returns c =
    all_have_room c.args.compiled.now (record { point = c.in_ok-point.point; range = c.in_ok-range.range; arcs = c.in_ok-arcs.arcs })
    c.greatest_point_limit-point_limit.result c.greatest_range_limit-range_limit.result
    (room_of c.args.compiled.now c.greatest_point_limit-point_limit.result c.in_ok-point.point c.in_ok-point.ensures) c.in_ok-range.ensures
    (subst (TellsLeastArcs c.in_ok-arcs.arcs) c.as_slice.ensures c.in_ok-arcs.ensures)
    c.args.queries.now c.greatest_point_limit-point_limit.ensures c.greatest_range_limit-range_limit.ensures
