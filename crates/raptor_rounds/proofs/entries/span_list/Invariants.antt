use Rattle.std.proofs.Common.{◌≡◌, length}
use Rattle.std.specs.Prelude.{vec_len}
use Rattle.raptor_rounds.specs.Labels.{AreSpans}
use Rattle.raptor_rounds.proofs.entries.span_list.Given as goal

abbrev pub invariant-loop-i : goal.invariant-loop-i
invariant-loop-i l = record {
  firsts : length l.spans.firsts ≡ length l.fn.spans.firsts;
  ends : vec_len l.spans.ends ≡ length l.fn.spans.firsts;
  spans : AreSpans l.list l.i l.spans;
}
