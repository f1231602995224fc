use Rattle.pareto_laws.proofs.ListedJourneys.{listed_suffice}
use Rattle.pareto_laws.proofs.RangeByListed.{range_by_listed_lem}
use Rattle.pareto_laws.proofs.laws.range_by_listed.Goals as goal

pub returns : goal.returns
returns c = λ n list s t first_row last_row foot limit first last profile ok suffices distances from_s to_t has_foot range.
    range_by_listed_lem n list s t first_row last_row foot limit
    (listed_suffice n ok list distances s t first_row last_row from_s to_t suffices) has_foot first last profile range
