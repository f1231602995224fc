use Rattle.std.proofs.Common.{rules}
use Rattle.top_call.proofs.CauseLemmas.{HasCause-input}
use Rattle.std.proofs.lemmas.Result.{err_from_is_err_and}
use Rattle.top_call.specs.Words.{told}
use Rattle.top_call.specs.Input.{held}
use Rattle.top_call.proofs.RejectLemmas.{graph_file, graph_rule}
use Rattle.top_call.proofs.network.read_streets.Goals as goal

pub returns-clause-cause : goal.returns-clause-cause
returns-clause-cause g c = HasCause-input g.F.Files _ _ _ _ c.status_of.ensures.cause

pub returns-in_err-bytes-clause-rejected : goal.returns-in_err-bytes-clause-rejected
returns-in_err-bytes-clause-rejected g c =
    let p = err_from_is_err_and c.from_residual.result c.from_residual.ensures.1 in
    rw (p.1, p.2) (λ tells. graph_file (held (told c.args.plan.now) (g.F.Files.holds c.args.files.now)) c.in_err-bytes.field-0.0 (c.in_err-bytes.ensures.rejected tells))

pub returns-clause-rejected : goal.returns-clause-rejected
returns-clause-rejected g c = λ tells.
    rw c.status_of.ensures.value (graph_rule (held (told c.args.plan.now) (g.F.Files.holds c.args.files.now)) c.deref.result.now c.in-Err.stopped
    (record { stands = search rules; short = search rules }) c.in-Err.ensures.refused)
