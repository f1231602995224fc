use Rattle.std.proofs.Common.{arith, refl}
use Rattle.feed_values.proofs.DayLemmas.{is-day}
use Rattle.feed_values.proofs.dates.day_number.Goals as goal

pub returns-clause-day : goal.returns-clause-day
returns-clause-day c = λ date. is-day _ _ _ _ c.requires.years c.requires.months c.requires.days (omega arith) date
