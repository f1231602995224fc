use Rattle.std.proofs.Common.{arith}
use Rattle.std.specs.Prelude.{◌==◌}
use Rattle.street_graph.proofs.TextLemmas.{none_passes}
use Rattle.street_graph.proofs.text.line_len.Goals as goal

pub returns-clause-place : goal.returns-clause-place
returns-clause-place c = none_passes (λ b. b == 10) c.args.text.now (λ k lt. c.loop-i.invariant k (omega arith))
