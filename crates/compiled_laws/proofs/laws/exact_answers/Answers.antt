use Rattle.compiled_laws.proofs.Points.{point_exact}
use Rattle.compiled_laws.proofs.Ranges.{range_exact}
use Rattle.compiled_laws.proofs.laws.exact_answers.Goals as goal

pub returns : goal.returns
returns c = record { point = point_exact; range = range_exact }
