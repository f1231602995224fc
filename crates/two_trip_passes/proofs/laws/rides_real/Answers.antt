use Rattle.two_trip_passes.proofs.StepLemmas.{ridden_real}
use Rattle.two_trip_passes.proofs.laws.rides_real.Goals as goal

pub returns : goal.returns
returns c = ridden_real
