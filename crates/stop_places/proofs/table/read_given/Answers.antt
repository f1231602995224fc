use Rattle.stop_places.proofs.Outcome.{vertices}
use Rattle.stop_places.proofs.table.read_given.Goals as goal

pub returns-clause-accepted : goal.returns-clause-accepted
returns-clause-accepted c = rw c.in-Some.is c.read_table.ensures.accepted

pub returns-clause-given : goal.returns-clause-given
returns-clause-given c = rw c.in-Some.is (vertices c.in-Some.text.now c.read_table.result c.read_table.ensures.given)

pub returns-clause-refused : goal.returns-clause-refused
returns-clause-refused c = λ r e. rw c.in-Some.is (c.read_table.ensures.refused r e)
