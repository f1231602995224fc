use Rattle.std.proofs.Common.{◌≡◌, ◌+◌, ◌≤◌, length, take}
use Rattle.std.specs.Prelude.{sum_by}
use Rattle.move_model.specs.declared.journey.Span.{Span}
use Rattle.range_answers.specs.Spans.{AreFound}
use Rattle.range_answers.proofs.found.find_spans.Given as goal

abbrev pub invariant-loop-span : goal.invariant-loop-span
invariant-loop-span g l = record {
  found : AreFound l.compiled l.from l.to (take l.span-index l.spans) l.found;
  nodes : l.work.nodes ≡ l.fn.work.nodes;
  ticks : l.searches ≤ l.fn.searches + sum_by (λ (span : Span). length span.rides + 1) (take l.span-index l.spans);
}
