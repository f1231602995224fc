use Rattle.std.proofs.Common.{refl, arith}
use Rattle.range_lanes.specs.Levels.IsBestFrom.{comes}
use Rattle.range_lanes.proofs.level.lower_best.Goals as goal

pub returns-then-arrive-level-clause-sound : goal.returns-then-arrive-level-clause-sound
returns-then-arrive-level-clause-sound c = comes c.in-Some.walk c.in-Some.ensures (omega (arith, c.from.ensures)) refl
