use Rattle.std.proofs.lemmas.Result.{err_from_is_err_and}
use Rattle.top_call.specs.Words.{told}
use Rattle.top_call.specs.Input.{held}
use Rattle.top_call.proofs.RejectLemmas.{places_file, places_rule}
use Rattle.std.proofs.Common.{refl, rules, ap, Err, option_copied}
use Rattle.top_call.proofs.network.read_places.Goals as goal

pub returns-in_err-bytes-clause-rejected : goal.returns-in_err-bytes-clause-rejected
returns-in_err-bytes-clause-rejected g c =
    let p = err_from_is_err_and c.from_residual.result c.from_residual.ensures.1 in
    rw (p.1, p.2) (λ tells. places_file (held (told c.args.plan.now) (g.F.Files.holds c.args.files.now)) c.args.near c.args.feed.now.stops c.args.nodes c.in_err-bytes.field-0.0 (c.in_err-bytes.ensures.rejected tells))

pub returns-clause-rejected : goal.returns-clause-rejected
returns-clause-rejected g c = λ tells.
    rw c.status_of.ensures.value (places_rule (held (told c.args.plan.now) (g.F.Files.holds c.args.files.now)) c.args.near c.args.feed.now.stops c.args.nodes (option_copied c.as_deref.result) c.in-Err.stopped
    (c.in_ok-bytes.ensures.readable tells refl) (search rules) (λ r e. rw c.as_slice.ensures at (c.in-Err.ensures.refused r (ap (λ s. Err s) e))))
