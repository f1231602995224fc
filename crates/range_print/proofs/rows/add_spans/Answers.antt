use Rattle.std.proofs.Common.{◌≡◌, sym, ap, subst, arith, drop, []}
use Rattle.std.proofs.lemmas.List.{drop_all}
use Rattle.move_model.specs.declared.journey.SpanFinding.{SpanFinding}
use Rattle.journey_print.specs.Legs.{IsPrintable}
use Rattle.journey_print.proofs.WritingLemmas.{left_is, more_written, all_written}
use Rattle.range_print.specs.Rows.{span_records, spans_from}
use Rattle.range_print.proofs.SpanLemmas.{spans_from-drop}
use Rattle.range_print.proofs.rows.add_spans.Goals as goal

pub loop-found-preserved : goal.loop-found-preserved
loop-found-preserved c = record {
  count = omega arith;
  so_far = λ all text h.
      let n = c.args.network.now in
      let within = rw c.as_slice-found-items.ensures at c.loop-found-test.true in
      let is = rw c.as_slice-found-items.ensures at c.found-item.is in
      let real = subst (λ (f : SpanFinding). IsPrintable n f.finding) (sym is) (all c.loop-found.found-index c.found-item.result within) in
      more_written _ _ _ _ (span_records c.args.number c.loop-found.journey n c.args.answer.now c.found-item.result) _ text
      (left_is (spans_from-drop c.args.number c.loop-found.journey n c.args.answer.now c.args.answer.now.spans c.loop-found.found-index c.found-item.result within is)
      (c.loop-found.invariant.so_far all text h))
      (c.in_ok-add_span.ensures real);
}

pub returns : goal.returns
returns c = λ all text h.
    let none : drop c.loop-found.found-index c.args.answer.now.spans ≡ [] = drop_all _ _ (rw c.as_slice-found-items.ensures at c.loop-found-test.false) in
    all_written _ _ _ text
    (left_is (ap (λ fs. spans_from c.args.number c.loop-found.journey c.args.network.now c.args.answer.now fs) none)
    (c.loop-found.invariant.so_far all text h))
