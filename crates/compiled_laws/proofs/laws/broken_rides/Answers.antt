use Rattle.compiled_laws.proofs.Others.{no_journey}
use Rattle.compiled_laws.proofs.laws.broken_rides.Goals as goal

pub returns : goal.returns
returns c = no_journey
