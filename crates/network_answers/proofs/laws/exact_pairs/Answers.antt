use Rattle.network_answers.proofs.PairLaws.{pairs_exact}
use Rattle.network_answers.proofs.laws.exact_pairs.Goals as goal

pub returns : goal.returns
returns c = pairs_exact
