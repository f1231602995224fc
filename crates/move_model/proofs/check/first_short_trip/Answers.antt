use Rattle.std.proofs.Common.{arith, rules}
use Rattle.move_model.specs.Check.{IsLong}
use Rattle.move_model.proofs.CheckLemmas.{All-one_more, All-whole}
use Rattle.move_model.proofs.check.first_short_trip.Goals as goal

pub loop-i-preserved : goal.loop-i-preserved
loop-i-preserved c = All-one_more IsLong _ _ _ c.loop-i-test.true c.index-trips-i.is c.loop-i.invariant (search rules)

pub returns-clause-none : goal.returns-clause-none
returns-clause-none c = All-whole IsLong _ _ (omega arith) c.loop-i.invariant
