use Rattle.street_graph.proofs.GrLineLemmas.{arc_without, arc_one, arc_two, arc_three, arc_four}
use Rattle.street_graph.proofs.gr.arc_line.Goals as goal

pub returns-in_default : goal.returns-in_default
returns-in_default c = arc_without _ c.in_default.ensures

pub returns-in_default-next_number : goal.returns-in_default-next_number
returns-in_default-next_number c = arc_one _ _ _ c.in-Some.ensures c.in_default-next_number.ensures

pub returns-in_default-next_number-2 : goal.returns-in_default-next_number-2
returns-in_default-next_number-2 c = arc_two _ _ _ _ _ c.in-Some.ensures c.in-Some-next_number.ensures c.in_default-next_number-2.ensures

pub returns-in-None : goal.returns-in-None
returns-in-None c = arc_three _ _ _ _ _ _ _ c.in-Some.ensures c.in-Some-next_number.ensures c.in-Some-next_number-2.ensures c.in-None.ensures.field

pub returns-in-Some-next_field : goal.returns-in-Some-next_field
returns-in-Some-next_field c =
    arc_four _ _ _ _ _ _ _ _ _ c.in-Some.ensures c.in-Some-next_number.ensures c.in-Some-next_number-2.ensures c.in-Some-next_field.ensures.field
