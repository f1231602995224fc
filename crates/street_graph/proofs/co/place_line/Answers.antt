use Rattle.street_graph.proofs.CoLineLemmas.{place_without, place_one, place_two, place_three, place_four}
use Rattle.street_graph.proofs.co.place_line.Goals as goal

pub returns-in_default : goal.returns-in_default
returns-in_default c = place_without _ c.in_default.ensures

pub returns-in_default-next_signed : goal.returns-in_default-next_signed
returns-in_default-next_signed c = place_one _ _ _ c.in-Some.ensures c.in_default-next_signed.ensures

pub returns-in_default-next_signed-2 : goal.returns-in_default-next_signed-2
returns-in_default-next_signed-2 c = place_two _ _ _ _ _ c.in-Some.ensures c.in-Some-next_signed.ensures c.in_default-next_signed-2.ensures

pub returns-in-None : goal.returns-in-None
returns-in-None c = place_three _ _ _ _ _ _ _ c.in-Some.ensures c.in-Some-next_signed.ensures c.in-Some-next_signed-2.ensures c.in-None.ensures.field

pub returns-in-Some-next_field : goal.returns-in-Some-next_field
returns-in-Some-next_field c =
    place_four _ _ _ _ _ _ _ _ _ c.in-Some.ensures c.in-Some-next_signed.ensures c.in-Some-next_signed-2.ensures c.in-Some-next_field.ensures.field
