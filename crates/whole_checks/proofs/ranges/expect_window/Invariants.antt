use Rattle.std.proofs.Common.{◌≡◌}
use Rattle.whole_checks.proofs.ranges.expect_window.Given as goal

abbrev pub invariant-loop-second : goal.invariant-loop-second
invariant-loop-second g l = l.rounds ≡ record l.fn.rounds { answers = l.rounds.answers }
