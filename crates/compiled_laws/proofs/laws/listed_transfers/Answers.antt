use Rattle.compiled_laws.proofs.Transfers.{point_transfers, range_transfers}
use Rattle.compiled_laws.proofs.laws.listed_transfers.Goals as goal

pub returns : goal.returns
returns c = record { point = point_transfers; range = range_transfers }
