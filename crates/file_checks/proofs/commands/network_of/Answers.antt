use Rattle.file_checks.proofs.StorableLemmas.{holds_again}
use Rattle.file_checks.proofs.commands.network_of.Goals as goal

pub returns : goal.returns
returns c = holds_again c.in_ok-value.value c.in_ok-value.ensures.writable
