use Rattle.top_call.proofs.CauseLemmas.{HasCause-usage, HasCause-write_fault, HasCause-no_file, HasCause-read_fault, Sends-nothing, Sends-weaker, not-unsent}
use Rattle.top_call.specs.Words.{told}
use Rattle.top_call.specs.Input.{held, IsInput}
use Rattle.top_call.specs.Status.{IsThisInput, IsAnyInput}
use Rattle.top_call.proofs.AnswerLemmas.{SearchesFor-weaker, OpensFor-weaker}
use Rattle.top_call.proofs.RejectLemmas.{fits_stopped}
use Rattle.top_call.proofs.command.run_plan.Goals as goal

pub returns-in-Err-clause-not_usage : goal.returns-in-Err-clause-not_usage
returns-in-Err-clause-not_usage g c = HasCause-usage g.F.Files _ _ _ _ c.in-Err.ensures.cause

pub returns-in-Err-clause-no_file : goal.returns-in-Err-clause-no_file
returns-in-Err-clause-no_file g c = HasCause-no_file g.F.Files _ _ _ _ c.in-Err.ensures.cause

pub returns-in-Err-clause-read_fault : goal.returns-in-Err-clause-read_fault
returns-in-Err-clause-read_fault g c = HasCause-read_fault g.F.Files _ _ _ _ c.in-Err.ensures.cause

pub returns-in-Err-clause-write_fault : goal.returns-in-Err-clause-write_fault
returns-in-Err-clause-write_fault g c = λ is. absurd (HasCause-write_fault g.F.Files _ _ _ _ c.in-Err.ensures.cause is)

pub returns-in-Err-clause-sent : goal.returns-in-Err-clause-sent
returns-in-Err-clause-sent g c = λ tells. Sends-nothing g.F.Files _ _ _ _ IsAnyInput _ c.in-Err.ensures.cause

pub returns-in-Err-clause-printed : goal.returns-in-Err-clause-printed
returns-in-Err-clause-printed g c = λ files_tell out_tells.
    Sends-nothing g.F.Files _ _ _ _ (IsInput (told c.args.plan.now) (held (told c.args.plan.now) (g.F.Files.holds c.args.files.now))) _ c.in-Err.ensures.cause

pub returns-in-Err-clause-fits : goal.returns-in-Err-clause-fits
returns-in-Err-clause-fits g c = λ tells. fits_stopped g.F.Files (told c.args.plan.now) (held (told c.args.plan.now) (g.F.Files.holds c.args.files.now)) _ _ _ c.in-Err.ensures.cause (c.in-Err.ensures.rejected tells)

pub returns-in-Ok-clause-sent : goal.returns-in-Ok-clause-sent
returns-in-Ok-clause-sent g c = λ tells.
    Sends-weaker (IsThisInput c.in-Ok.network c.in-Ok.queries) IsAnyInput _ _ _ (λ n queries is. tt) (c.send_answers.ensures.sent tells)

pub returns-in-Ok-clause-printed : goal.returns-in-Ok-clause-printed
returns-in-Ok-clause-printed g c = λ files_tell out_tells.
    Sends-weaker (IsThisInput c.in-Ok.network c.in-Ok.queries) (IsInput (told c.args.plan.now) (held (told c.args.plan.now) (g.F.Files.holds c.args.files.now))) _ _ _
    (λ n queries is. rw (is.0, is.1) (c.in-Ok.ensures.input files_tell)) (c.send_answers.ensures.sent out_tells)

pub returns-in-Ok-clause-unsent : goal.returns-in-Ok-clause-unsent
returns-in-Ok-clause-unsent g c = λ is. absurd (not-unsent c.send_answers.result c.send_answers.ensures.ends is)

pub returns-in-Ok-clause-searches : goal.returns-in-Ok-clause-searches
returns-in-Ok-clause-searches g c = λ files_tell.
    SearchesFor-weaker (IsThisInput c.in-Ok.network c.in-Ok.queries) (IsInput (told c.args.plan.now) (held (told c.args.plan.now) (g.F.Files.holds c.args.files.now))) _ _
    (λ n queries is. rw (is.0, is.1) (c.in-Ok.ensures.input files_tell)) c.send_answers.ensures.searches

pub returns-in-Ok-clause-opens : goal.returns-in-Ok-clause-opens
returns-in-Ok-clause-opens g c = λ files_tell.
    OpensFor-weaker (IsThisInput c.in-Ok.network c.in-Ok.queries) (IsInput (told c.args.plan.now) (held (told c.args.plan.now) (g.F.Files.holds c.args.files.now))) _ _
    (λ n queries is. rw (is.0, is.1) (c.in-Ok.ensures.input files_tell)) c.send_answers.ensures.opens

pub returns-in-Ok-clause-unsearched : goal.returns-in-Ok-clause-unsearched
returns-in-Ok-clause-unsearched g c = λ is. absurd (not-unsent c.send_answers.result c.send_answers.ensures.ends is)
