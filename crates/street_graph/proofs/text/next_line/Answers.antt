use Rattle.std.proofs.Common.{arith}
use Rattle.street_graph.proofs.TextLemmas.{line_last, line_next}
use Rattle.street_graph.proofs.text.next_line.Goals as goal

pub returns-then-end-text-clause-first : goal.returns-then-end-text-clause-first
returns-then-end-text-clause-first c =
    line_last c.args.text.now c.line_len-end.result (omega arith) c.line_len-end.ensures.place (omega arith)

pub returns-else-end-text-clause-first : goal.returns-else-end-text-clause-first
returns-else-end-text-clause-first c =
    line_next c.args.text.now _ c.line_len-end.result c.line_len-end.ensures.place c.line_len-end.ensures.within (λ e. omega arith) c.without_return.ensures
