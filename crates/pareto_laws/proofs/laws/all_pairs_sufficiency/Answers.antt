use Rattle.pareto_laws.proofs.AllPairs.{all_pairs_suffice, all_pairs_hold_distances}
use Rattle.pareto_laws.proofs.laws.all_pairs_sufficiency.Goals as goal

pub returns : goal.returns
returns c = record { suffices = λ n list ok all. all_pairs_suffice n ok list all; distances = all_pairs_hold_distances }
