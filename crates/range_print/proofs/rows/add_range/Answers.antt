use Rattle.std.proofs.Common.{◌++◌, sym, subst}
use Rattle.std.specs.Prelude.{IfSome}
use Rattle.std.proofs.lemmas.Result.{on_ok_weaker}
use Rattle.journey_print.specs.Legs.{IsPrintable}
use Rattle.journey_print.specs.Records.{HasText, records_text}
use Rattle.range_print.specs.Rows.{rows_of}
use Rattle.range_print.proofs.rows.add_range.Goals as goal

pub returns-in-Some : goal.returns-in-Some
returns-in-Some c =
    on_ok_weaker c.add_foot_and_spans.result
    (λ rows all text h.
    let real : IsPrintable c.args.network.now c.in-Some.foot = subst (λ o. IfSome o (IsPrintable c.args.network.now)) c.in-Some.is all.foot in
    subst (λ o. HasText c.add_foot_and_spans.new.out (text ++ records_text (rows_of c.args.number c.args.network.now c.args.answer.now o c.args.answer.now.spans)))
    (sym c.in-Some.is) (rows real all.spans text h))
    c.add_foot_and_spans.ensures

pub returns-in-None : goal.returns-in-None
returns-in-None c =
    on_ok_weaker c.add_spans_or_none.result
    (λ rows all text h.
    subst (λ o. HasText c.add_spans_or_none.new.out (text ++ records_text (rows_of c.args.number c.args.network.now c.args.answer.now o c.args.answer.now.spans)))
    (sym c.in-None.is) (rows all.spans text h))
    c.add_spans_or_none.ensures
