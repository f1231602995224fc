use Rattle.std.proofs.Common.{inr, arith}
use Rattle.std.proofs.lemmas.Result.{on_ok_weaker, on_err_weaker}
use Rattle.answer_rows.proofs.SentLemmas.{range_rows}
use Rattle.answer_rows.proofs.CountLemmas.{range_searched, range_opened}
use Rattle.answer_rows.proofs.PrintLaws.{range_printable}
use Rattle.answer_rows.proofs.range.send_range.Goals as goal

pub send_rows-requires-clause-real : goal.send_rows-requires-clause-real
send_rows-requires-clause-real g c =
    range_printable c.args.compiled.now c.requires.fits c.args.from.now c.args.to.now c.args.limit c.args.first c.args.last c.in-Ok.answer (omega arith) (omega arith) c.in-Ok.ensures.found

pub returns-in-Ok-clause-ok : goal.returns-in-Ok-clause-ok
returns-in-Ok-clause-ok g c = λ tells.
    on_ok_weaker c.send_rows.result
    (λ sent. (_, range_rows c.args.compiled.now c.args.number c.args.from.now c.args.to.now c.args.first c.args.last c.args.limit c.in-Ok.answer c.requires.query c.in-Ok.ensures.asked c.in-Ok.ensures.found, sent))
    (c.send_rows.ensures.ok tells)

pub returns-in-Ok-clause-err : goal.returns-in-Ok-clause-err
returns-in-Ok-clause-err g c = λ tells.
    on_err_weaker c.send_rows.result
    (λ sent. inr (_, range_rows c.args.compiled.now c.args.number c.args.from.now c.args.to.now c.args.first c.args.last c.args.limit c.in-Ok.answer c.requires.query c.in-Ok.ensures.asked c.in-Ok.ensures.found, sent))
    (c.send_rows.ensures.err tells)

pub returns-in-Ok-clause-searches : goal.returns-in-Ok-clause-searches
returns-in-Ok-clause-searches g c =
    range_searched c.args.compiled.now c.args.from.now c.args.to.now c.args.first c.args.last c.args.limit _ _ c.requires.query c.answer_range.ensures.searches

pub returns-in-Err-clause-searches : goal.returns-in-Err-clause-searches
returns-in-Err-clause-searches g c =
    range_searched c.args.compiled.now c.args.from.now c.args.to.now c.args.first c.args.last c.args.limit _ _ c.requires.query c.answer_range.ensures.searches

pub returns-in-Ok-clause-opens : goal.returns-in-Ok-clause-opens
returns-in-Ok-clause-opens g c =
    range_opened c.args.compiled.now c.args.from.now c.args.to.now c.args.first c.args.last c.args.limit _ _ c.requires.query c.answer_range.ensures.opens

pub returns-in-Err-clause-opens : goal.returns-in-Err-clause-opens
returns-in-Err-clause-opens g c =
    range_opened c.args.compiled.now c.args.from.now c.args.to.now c.args.first c.args.last c.args.limit _ _ c.requires.query c.answer_range.ensures.opens
