use Rattle.range_search.proofs.LeadLemmas.{FindState}
use Rattle.range_search.proofs.leads.find_leads.Given as goal

abbrev pub invariant-loop-k : goal.invariant-loop-k
invariant-loop-k l = FindState l.levels l.bound l.k l.leads l.least
