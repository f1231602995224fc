use Rattle.std.proofs.lemmas.Result.{on_ok_weaker}
use Rattle.range_print.specs.Rows.{foot_records, spans_from}
use Rattle.range_print.proofs.SpanLemmas.{rows_and_rows}
use Rattle.range_print.proofs.rows.add_foot_and_spans.Goals as goal

pub returns : goal.returns
returns c =
    on_ok_weaker c.add_spans.result
    (λ spans is all text h.
    let n = c.args.network.now in
    rows_and_rows c.args.out.now c.add_foot.new.out c.add_spans.new.out (foot_records c.args.number n c.args.answer.now c.args.foot.now)
    (spans_from c.args.number 2 n c.args.answer.now c.args.answer.now.spans) text h (c.in_ok-add_foot.ensures is) (spans all))
    c.add_spans.ensures
