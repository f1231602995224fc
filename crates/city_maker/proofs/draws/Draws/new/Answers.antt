use Rattle.std.proofs.Common.{refl}
use Rattle.city_maker.specs.Draws.{state_after}
use Rattle.city_maker.proofs.draws.Draws.new.Goals as goal

pub invariant_of-result : goal.invariant_of-result
unfolding state_after
invariant_of-result c = record { stands = refl }
