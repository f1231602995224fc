use Rattle.std.proofs.Common.{rules}
use Rattle.top_call.proofs.CauseLemmas.{HasCause-input}
use Rattle.std.proofs.lemmas.Result.{err_from_is_err_and}
use Rattle.top_call.specs.Words.{told}
use Rattle.top_call.specs.Input.{held}
use Rattle.top_call.proofs.RejectLemmas.{points_file, points_rule}
use Rattle.top_call.proofs.network.read_points.Goals as goal

pub returns-in-Err-clause-cause : goal.returns-in-Err-clause-cause
returns-in-Err-clause-cause g c = HasCause-input g.F.Files _ _ _ _ c.status_of.ensures.cause

pub returns-in_err-bytes-clause-rejected : goal.returns-in_err-bytes-clause-rejected
returns-in_err-bytes-clause-rejected g c =
    let p = err_from_is_err_and c.from_residual.result c.from_residual.ensures.1 in
    rw (p.1, p.2) (λ tells. points_file (told c.args.plan.now) (held (told c.args.plan.now) (g.F.Files.holds c.args.files.now)) c.args.nodes c.in_err-bytes.field-0.0 (search rules) (c.in_err-bytes.ensures.rejected tells))

pub returns-in-Err-clause-rejected : goal.returns-in-Err-clause-rejected
returns-in-Err-clause-rejected g c = λ tells.
    rw c.status_of.ensures.value (points_rule (told c.args.plan.now) (held (told c.args.plan.now) (g.F.Files.holds c.args.files.now)) c.args.nodes c.deref.result.now c.in-Err.stopped (search rules)
    (record { stands = search rules; short = search rules }) c.in-Err.ensures.refused)
