use Rattle.std.proofs.Common.{arith}
use Rattle.street_graph.specs.Text.{is_blank}
use Rattle.street_graph.proofs.TextLemmas.{none_passes}
use Rattle.street_graph.proofs.text.field_len.Goals as goal

pub returns-clause-place : goal.returns-clause-place
returns-clause-place c = none_passes is_blank c.args.line.now (λ k lt. c.loop-i.invariant k (omega arith))
