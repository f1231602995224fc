use Rattle.std.proofs.Common.{◌≢◌, ◌++◌, append-nil, [], None, sym, subst, rules}
use Rattle.std.proofs.lemmas.Result.{on_ok_weaker}
use Rattle.journey_print.specs.Records.{HasText, record_text, records_text}
use Rattle.range_print.specs.Rows.{range_none_record, rows_of}
use Rattle.range_print.proofs.SpanLemmas.{rows_of-some}
use Rattle.range_print.proofs.rows.add_spans_or_none.Goals as goal

pub returns-then-is_empty : goal.returns-then-is_empty
returns-then-is_empty c =
    on_ok_weaker c.add_none_row.result
    (λ row all text h.
    subst (λ spans. HasText c.add_none_row.new.out (text ++ records_text (rows_of c.args.number c.args.network.now c.args.answer.now None spans)))
    (sym (c.is_empty.ensures.0 c.if-is_empty.true))
    (subst (λ ws. HasText c.add_none_row.new.out (text ++ ws)) (sym (append-nil (record_text (range_none_record c.args.number c.args.answer.now)))) (row text h)))
    c.add_none_row.ensures

pub returns-else-is_empty : goal.returns-else-is_empty
returns-else-is_empty c =
    let some : c.args.answer.now.spans ≢ [] = search rules in
    on_ok_weaker c.add_spans.result
    (λ rows all text h.
    subst (λ rs. HasText c.add_spans.new.out (text ++ records_text rs))
    (rows_of-some c.args.number c.args.network.now c.args.answer.now c.args.answer.now.spans some) (rows all text h))
    c.add_spans.ensures
