use Rattle.two_trip_passes.proofs.NeededTable.{read_needs, needed_reads}
use Rattle.two_trip_passes.proofs.laws.labels_read.Goals as goal

pub returns : goal.returns
returns c = record { needed = read_needs; read = needed_reads }
