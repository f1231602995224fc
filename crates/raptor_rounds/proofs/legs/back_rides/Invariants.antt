use Rattle.std.proofs.Common.{◌≡◌, ◌-◌, ◌++◌}
use Rattle.raptor_rounds.specs.Answers.{before}
use Rattle.raptor_rounds.proofs.legs.back_rides.Given as goal

abbrev pub invariant-loop-turn : goal.invariant-loop-turn
invariant-loop-turn l = l.back.items ++ before l.slots (255 - l.turn) l.next ≡ before l.slots 255 l.by
