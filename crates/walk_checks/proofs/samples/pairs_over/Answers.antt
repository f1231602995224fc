use Rattle.walk_checks.proofs.SampleRules.{pairs_over}
use Rattle.walk_checks.proofs.samples.pairs_over.Goals as goal

pub hierarchy_of-requires-clause-over : goal.hierarchy_of-requires-clause-over
hierarchy_of-requires-clause-over c = rw (c.requires, c.arc.ensures, c.arc-2.ensures, c.arc-3.ensures, c.arc-4.ensures) pairs_over
