use Rattle.street_graph.proofs.CoLineLemmas.{size_other, size_one, size_two, size_three, size_four, size_five}
use Rattle.street_graph.proofs.co.size_line.Goals as goal

pub returns-in_default : goal.returns-in_default
returns-in_default c = size_other _ c.in_default.ensures

pub returns-in_default-next_word : goal.returns-in_default-next_word
returns-in_default-next_word c = size_one _ _ c.in-Some.ensures c.in_default-next_word.ensures

pub returns-in_default-next_word-2 : goal.returns-in_default-next_word-2
returns-in_default-next_word-2 c = size_two _ _ _ c.in-Some.ensures c.in-Some-next_word.ensures c.in_default-next_word-2.ensures

pub returns-in_default-next_number : goal.returns-in_default-next_number
returns-in_default-next_number c =
    size_three _ _ _ _ c.in-Some.ensures c.in-Some-next_word.ensures c.in-Some-next_word-2.ensures c.in_default-next_number.ensures

pub returns-in-None : goal.returns-in-None
returns-in-None c =
    size_four _ _ _ _ _ _ c.in-Some.ensures c.in-Some-next_word.ensures c.in-Some-next_word-2.ensures c.in-Some-next_number.ensures c.in-None.ensures.field

pub returns-in-Some-next_field : goal.returns-in-Some-next_field
returns-in-Some-next_field c =
    size_five _ _ _ _ _ _ _ _ c.in-Some.ensures c.in-Some-next_word.ensures c.in-Some-next_word-2.ensures c.in-Some-next_number.ensures c.in-Some-next_field.ensures.field
