use Rattle.std.proofs.Common.{inr, arith}
use Rattle.std.proofs.lemmas.Result.{on_ok_weaker, on_err_weaker}
use Rattle.answer_rows.proofs.SentLemmas.{point_rows}
use Rattle.answer_rows.proofs.CountLemmas.{point_searched, point_opened}
use Rattle.answer_rows.proofs.PrintLaws.{printable}
use Rattle.answer_rows.proofs.point.send_point.Goals as goal

pub send_rows-requires-clause-real : goal.send_rows-requires-clause-real
send_rows-requires-clause-real g c =
    printable c.args.compiled.now c.requires.fits c.args.from.now.node c.args.to.now.node c.args.depart c.args.limit c.in-Ok.answer.found (omega arith) c.in-Ok.ensures.found

pub returns-in-Ok-clause-ok : goal.returns-in-Ok-clause-ok
returns-in-Ok-clause-ok g c = λ tells.
    on_ok_weaker c.send_rows.result
    (λ sent. (_, point_rows c.args.compiled.now c.args.number c.args.from.now c.args.to.now c.args.depart c.args.limit c.in-Ok.answer c.requires.query c.in-Ok.ensures.asked c.in-Ok.ensures.found, sent))
    (c.send_rows.ensures.ok tells)

pub returns-in-Ok-clause-err : goal.returns-in-Ok-clause-err
returns-in-Ok-clause-err g c = λ tells.
    on_err_weaker c.send_rows.result
    (λ sent. inr (_, point_rows c.args.compiled.now c.args.number c.args.from.now c.args.to.now c.args.depart c.args.limit c.in-Ok.answer c.requires.query c.in-Ok.ensures.asked c.in-Ok.ensures.found, sent))
    (c.send_rows.ensures.err tells)

pub returns-in-Ok-clause-searches : goal.returns-in-Ok-clause-searches
returns-in-Ok-clause-searches g c =
    point_searched c.args.compiled.now c.args.from.now c.args.to.now c.args.depart c.args.limit _ _ c.requires.query c.answer_point.ensures.searches

pub returns-in-Err-clause-searches : goal.returns-in-Err-clause-searches
returns-in-Err-clause-searches g c =
    point_searched c.args.compiled.now c.args.from.now c.args.to.now c.args.depart c.args.limit _ _ c.requires.query c.answer_point.ensures.searches

pub returns-in-Ok-clause-opens : goal.returns-in-Ok-clause-opens
returns-in-Ok-clause-opens g c =
    point_opened c.args.compiled.now c.args.from.now c.args.to.now c.args.depart c.args.limit _ _ c.answer_point.ensures.opens

pub returns-in-Err-clause-opens : goal.returns-in-Err-clause-opens
returns-in-Err-clause-opens g c =
    point_opened c.args.compiled.now c.args.from.now c.args.to.now c.args.depart c.args.limit _ _ c.answer_point.ensures.opens
