use Rattle.two_trip_labels.proofs.Lasting.{closed_earlier, closed_sooner, sound_earlier}
use Rattle.two_trip_labels.proofs.laws.labels_last.Goals as goal

pub returns : goal.returns
returns c = record { closed = closed_earlier; sooner = closed_sooner; sound = sound_earlier }
