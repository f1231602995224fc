use Rattle.std.proofs.Common.{arith, rules}
use Rattle.move_model.specs.Check.{AreTimed}
use Rattle.move_model.proofs.CheckLemmas.{All-one_more, All-whole}
use Rattle.move_model.proofs.check.first_untimed.Goals as goal

pub loop-i-preserved : goal.loop-i-preserved
loop-i-preserved c = All-one_more (λ trip. AreTimed trip.calls) _ _ _ c.loop-i-test.true c.index-trips-i.is c.loop-i.invariant (search rules)

pub returns-clause-none : goal.returns-clause-none
returns-clause-none c = All-whole (λ trip. AreTimed trip.calls) _ _ (omega arith) c.loop-i.invariant
