use Rattle.std.proofs.lemmas.Result.{err_from_is_err_and}
use Rattle.top_call.proofs.CauseLemmas.{HasCause-later}
use Rattle.std.proofs.Common.{rules, ap, Err}
use Rattle.top_call.specs.Words.{told}
use Rattle.top_call.specs.Input.{held}
use Rattle.top_call.proofs.RejectLemmas.{input_network, input_file, input_rule}
use Rattle.top_call.proofs.network.read_inputs.Goals as goal

pub returns-in_err-bytes-clause-cause : goal.returns-in_err-bytes-clause-cause
returns-in_err-bytes-clause-cause g c =
    let p = err_from_is_err_and c.from_residual-in_err-bytes.result c.from_residual-in_err-bytes.ensures.1 in
    rw (p.1, p.2) (HasCause-later g.F.Files _ _ _ _ _ c.in_ok-network.ensures.reads c.in_err-bytes.ensures.cause)

pub returns-in_err-network-clause-rejected : goal.returns-in_err-network-clause-rejected
returns-in_err-network-clause-rejected g c =
    let p = err_from_is_err_and c.from_residual.result c.from_residual.ensures.1 in
    rw (p.1, p.2) (λ tells. input_network (told c.args.plan.now) (held (told c.args.plan.now) (g.F.Files.holds c.args.files.now)) c.in_err-network.field-0.0 (c.in_err-network.ensures.rejected tells))

pub returns-in_err-bytes-clause-rejected : goal.returns-in_err-bytes-clause-rejected
returns-in_err-bytes-clause-rejected g c =
    let p = err_from_is_err_and c.from_residual-in_err-bytes.result c.from_residual-in_err-bytes.ensures.1 in
    rw (p.1, p.2) (λ tells. input_file (told c.args.plan.now) (held (told c.args.plan.now) (g.F.Files.holds c.args.files.now)) c.in_err-bytes.field-0.0 _ (c.in_ok-network.ensures.told tells) (rw c.in_ok-network.ensures.reads.contents at (c.in_err-bytes.ensures.rejected tells)))

pub returns-in-Err-clause-rejected : goal.returns-in-Err-clause-rejected
returns-in-Err-clause-rejected g c = λ tells.
    rw c.status_of.ensures.value (input_rule (told c.args.plan.now) (held (told c.args.plan.now) (g.F.Files.holds c.args.files.now)) _ c.deref.result.now c.in-Err.stopped (c.in_ok-network.ensures.told tells)
    (record { stands = search rules; short = search rules }) (λ r e. c.in-Err.ensures.refused r (ap (λ s. Err s) e)))
