use Rattle.two_trip_passes.proofs.StepLemmas.{real_earlier}
use Rattle.two_trip_passes.proofs.laws.real_last.Goals as goal

pub returns : goal.returns
returns c = real_earlier
