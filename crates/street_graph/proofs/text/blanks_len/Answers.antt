use Rattle.std.proofs.Common.{arith}
use Rattle.std.specs.Prelude.{not}
use Rattle.street_graph.specs.Text.{is_blank}
use Rattle.street_graph.proofs.TextLemmas.{none_passes}
use Rattle.street_graph.proofs.text.blanks_len.Goals as goal

pub returns-clause-place : goal.returns-clause-place
returns-clause-place c = none_passes (λ b. not (is_blank b)) c.args.line.now (λ k lt. c.loop-i.invariant k (omega arith))
