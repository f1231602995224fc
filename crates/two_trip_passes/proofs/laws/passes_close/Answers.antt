use Rattle.two_trip_passes.proofs.StepLemmas.{closed_again}
use Rattle.two_trip_passes.proofs.laws.passes_close.Goals as goal

pub returns : goal.returns
returns c = λ n q z g h routes foot foot_row rows. closed_again n q z routes foot foot_row rows g h
