use Rattle.walk_checks.proofs.SampleRules.{added_rules, added_over, long_over}
use Rattle.walk_checks.proofs.hierarchies.hierarchy_of.Goals as goal

pub line_of-requires-clause-rules : goal.line_of-requires-clause-rules
line_of-requires-clause-rules c = added_rules

pub line_of-requires-clause-over : goal.line_of-requires-clause-over
line_of-requires-clause-over c = added_over

pub line_of-requires-in-Long-clause-over : goal.line_of-requires-in-Long-clause-over
line_of-requires-in-Long-clause-over c = long_over
