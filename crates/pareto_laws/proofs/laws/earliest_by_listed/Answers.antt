use Rattle.pareto_laws.proofs.ListedJourneys.{listed_suffice}
use Rattle.pareto_laws.proofs.Earliest.{earliest}
use Rattle.pareto_laws.proofs.laws.earliest_by_listed.Goals as goal

pub returns : goal.returns
returns c = λ n list s t first last d k foot best ok suffices distances from_s to_t has_foot has_best.
    earliest n list s t first last d k (listed_suffice n ok list distances s t first last from_s to_t suffices) foot best has_foot has_best
