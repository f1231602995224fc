use Rattle.range_spans.proofs.Loop.{CloseState}
use Rattle.range_spans.proofs.pending.close_spans.Given as goal

abbrev pub invariant-loop-i : goal.invariant-loop-i
invariant-loop-i l = CloseState l.leads l.first l.i l.fn.pending l.pending l.fn.closed.items l.closed.items
