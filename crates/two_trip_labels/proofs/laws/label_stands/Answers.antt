use Rattle.two_trip_labels.proofs.LabelLemmas.{label_real}
use Rattle.two_trip_labels.proofs.laws.label_stands.Goals as goal

pub returns : goal.returns
returns c = label_real
