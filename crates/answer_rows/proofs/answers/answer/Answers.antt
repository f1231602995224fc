use Rattle.answer_rows.specs.Counted.CountsEach.{none}
use Rattle.answer_rows.proofs.SentLemmas.{nothing_printed}
use Rattle.answer_rows.proofs.answers.answer.Goals as goal

pub returns-in_default-clause-part : goal.returns-in_default-clause-part
returns-in_default-clause-part g c = λ tells. nothing_printed c.args.compiled.now c.args.queries.now _

pub returns-in_default-clause-searches : goal.returns-in_default-clause-searches
returns-in_default-clause-searches g c = (0, none)

pub returns-in_default-clause-opens : goal.returns-in_default-clause-opens
returns-in_default-clause-opens g c = (0, none)
