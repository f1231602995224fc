use Rattle.piece_laws.proofs.Starts.{shortcut_of, needed_together, needed_start, bettered_alike}
use Rattle.piece_laws.proofs.laws.shortcuts_by_start.Goals as goal

pub returns : goal.returns
returns c = record { each = shortcut_of; together = needed_together; starts = needed_start; alike = bettered_alike }
