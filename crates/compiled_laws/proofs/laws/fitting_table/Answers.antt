use Rattle.compiled_laws.proofs.Others.{table_fits}
use Rattle.compiled_laws.proofs.laws.fitting_table.Goals as goal

pub returns : goal.returns
returns c = table_fits
