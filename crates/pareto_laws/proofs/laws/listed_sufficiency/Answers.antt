use Rattle.pareto_laws.proofs.ListedJourneys.{listed_suffice}
use Rattle.pareto_laws.proofs.laws.listed_sufficiency.Goals as goal

pub returns : goal.returns
returns c = λ n list s t first last ok suffices distances from_s to_t.
    listed_suffice n ok list distances s t first last from_s to_t suffices
