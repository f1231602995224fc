use Rattle.piece_laws.proofs.Read.{read_needed, needed_read}
use Rattle.piece_laws.proofs.laws.read_exactly.Goals as goal

pub returns : goal.returns
returns c = record { needed = read_needed; read = needed_read }
