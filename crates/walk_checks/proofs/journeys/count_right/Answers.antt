use Rattle.walk_checks.proofs.SampleRules.{pairs_over}
use Rattle.walk_checks.proofs.journeys.count_right.Goals as goal

pub builds_over-requires-clause-over : goal.builds_over-requires-clause-over
builds_over-requires-clause-over c = rw (c.requires.streets, c.in_ok-hierarchy.ensures) pairs_over
