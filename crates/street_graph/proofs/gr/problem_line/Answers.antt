use Rattle.street_graph.proofs.GrLineLemmas.{problem_other, problem_without, problem_one, problem_two, problem_three}
use Rattle.street_graph.proofs.gr.problem_line.Goals as goal

pub returns-in_default : goal.returns-in_default
returns-in_default c = problem_other _ c.in_default.ensures

pub returns-in_default-next_number : goal.returns-in_default-next_number
returns-in_default-next_number c = problem_without _ _ c.in-Some.ensures c.in_default-next_number.ensures

pub returns-in_default-next_number-2 : goal.returns-in_default-next_number-2
returns-in_default-next_number-2 c = problem_one _ _ _ _ c.in-Some.ensures c.in-Some-next_number.ensures c.in_default-next_number-2.ensures

pub returns-in-None : goal.returns-in-None
returns-in-None c = problem_two _ _ _ _ _ _ c.in-Some.ensures c.in-Some-next_number.ensures c.in-Some-next_number-2.ensures c.in-None.ensures.field

pub returns-in-Some-next_field : goal.returns-in-Some-next_field
returns-in-Some-next_field c =
    problem_three _ _ _ _ _ _ _ _ c.in-Some.ensures c.in-Some-next_number.ensures c.in-Some-next_number-2.ensures c.in-Some-next_field.ensures.field
