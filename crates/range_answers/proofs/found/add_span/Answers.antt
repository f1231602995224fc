use Rattle.range_answers.specs.Spans.AddsSpan.{one}
use Rattle.range_answers.proofs.SpanLaws.{span_found}
use Rattle.range_answers.proofs.found.add_span.Goals as goal

pub returns-in_ok-push-clause-adds : goal.returns-in_ok-push-clause-adds
returns-in_ok-push-clause-adds g c =
    one
    (span_found c.args.compiled.now c.args.from c.args.to c.args.span.now c.in-Some.finding (rw c.in-Some.is at c.in_ok-made.ensures.found))
    c.in_ok-push.ensures.ok
