use Rattle.std.proofs.lemmas.Result.{on_ok_weaker, on_err_weaker}
use Rattle.answer_rows.specs.Counted.CountsEach.{none}
use Rattle.answer_rows.proofs.SentLemmas.{all_printed, part_printed, part_of_header}
use Rattle.answer_rows.proofs.answers.send_all.Goals as goal

pub returns-in-Err-clause-part : goal.returns-in-Err-clause-part
returns-in-Err-clause-part g c = λ tells.
    part_of_header c.args.compiled.now c.args.queries.now _ _ (c.in-Err.ensures.err tells)

pub returns-in-Err-clause-searches : goal.returns-in-Err-clause-searches
returns-in-Err-clause-searches g c = (0, none)

pub returns-clause-rows : goal.returns-clause-rows
returns-clause-rows g c = λ tells.
    on_ok_weaker c.send_answers.result (all_printed c.args.compiled.now c.args.queries.now _ _ _ (c.in_default.ensures.ok tells))
    (c.send_answers.ensures.ok tells)

pub returns-clause-part : goal.returns-clause-part
returns-clause-part g c = λ tells.
    on_err_weaker c.send_answers.result (part_printed c.args.compiled.now c.args.queries.now _ _ _ (c.in_default.ensures.ok tells))
    (c.send_answers.ensures.err tells)

pub returns-in-Err-clause-opens : goal.returns-in-Err-clause-opens
returns-in-Err-clause-opens g c = (0, none)
