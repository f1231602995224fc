use Rattle.std.proofs.Common.{◌≢◌, ◌++◌, append-nil, [], sym, subst, rules}
use Rattle.std.proofs.lemmas.Result.{on_ok_weaker}
use Rattle.journey_print.specs.Records.{HasText, none_record, point_records, record_text, records_text}
use Rattle.journey_print.proofs.RowLemmas.{point_records-some}
use Rattle.journey_print.proofs.rows.add_point.Goals as goal

pub returns-then-is_empty : goal.returns-then-is_empty
returns-then-is_empty c =
    on_ok_weaker c.add_none.result
    (λ row all text h.
    subst (λ found. HasText c.add_none.new.out (text ++ records_text (point_records c.args.number c.args.network.now c.args.answer.now found)))
    (sym (c.is_empty.ensures.0 c.if-is_empty.true))
    (subst (λ ws. HasText c.add_none.new.out (text ++ ws)) (sym (append-nil (record_text (none_record c.args.number c.args.answer.now)))) (row text h)))
    c.add_none.ensures

pub returns-else-is_empty : goal.returns-else-is_empty
returns-else-is_empty c =
    let some : c.args.answer.now.found ≢ [] = search rules in
    on_ok_weaker c.add_findings.result
    (λ rows all text h.
    subst (λ rs. HasText c.add_findings.new.out (text ++ records_text rs))
    (point_records-some c.args.number c.args.network.now c.args.answer.now c.args.answer.now.found some) (rows all text h))
    c.add_findings.ensures
