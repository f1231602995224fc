use Rattle.bucket_walks.proofs.gather.search.Goals as goal

pub returns-in-To-clause-settled : goal.returns-in-To-clause-settled
returns-in-To-clause-settled g c = rw c.in-To.is c.search_down.ensures.settled

pub returns-in-From-clause-settled : goal.returns-in-From-clause-settled
returns-in-From-clause-settled g c = rw c.in-From.is c.search_up.ensures.settled
