use Rattle.two_trip_passes.proofs.StepLemmas.{walked_real, labels_real}
use Rattle.two_trip_passes.proofs.laws.walks_real.Goals as goal

pub returns : goal.returns
returns c = record { real = walked_real; labels = labels_real }
