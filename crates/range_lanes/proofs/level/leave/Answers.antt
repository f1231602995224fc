use Rattle.std.proofs.Common.{refl}
use Rattle.range_lanes.proofs.level.leave.Goals as goal

pub returns-then-not-is_late-clause-sound : goal.returns-then-not-is_late-clause-sound
returns-then-not-is_late-clause-sound c = λ q last_is arrives was. c.take.ensures.sound q c.args.below.now last_is arrives was

pub returns-else-not-is_late-clause-known : goal.returns-else-not-is_late-clause-known
returns-else-not-is_late-clause-known c = c.if-not-is_late.ensures.served refl
