use Rattle.std.proofs.lemmas.Result.{err_from_is_err_and}
use Rattle.top_call.proofs.CauseLemmas.{HasCause-later, err-input}
use Rattle.top_call.proofs.RejectLemmas.{feed_days, feed_trips}
use Rattle.top_call.proofs.feed.read_folder.Goals as goal

pub returns-in_err-trips-clause-cause : goal.returns-in_err-trips-clause-cause
returns-in_err-trips-clause-cause g c =
    let p = err_from_is_err_and c.from_residual-in_err-trips.result c.from_residual-in_err-trips.ensures.1 in
    rw (p.1, p.2) (HasCause-later g.F.Files _ _ _ _ _ c.in_ok-days.ensures.reads c.in_err-trips.ensures.cause)

pub returns-in_err-days-clause-rejected : goal.returns-in_err-days-clause-rejected
returns-in_err-days-clause-rejected g c =
    let p = err_from_is_err_and c.from_residual.result c.from_residual.ensures.1 in
    rw (p.1, p.2) (λ tells. feed_days _ _ (c.in_err-days.ensures.rejected tells))

pub returns-in_err-trips-clause-rejected : goal.returns-in_err-trips-clause-rejected
returns-in_err-trips-clause-rejected g c =
    let p = err_from_is_err_and c.from_residual-in_err-trips.result c.from_residual-in_err-trips.ensures.1 in
    rw (p.1, p.2) (λ tells. feed_trips _ _ (c.in_ok-days.ensures.readable tells) (rw c.in_ok-days.ensures.reads.contents at (c.in_err-trips.ensures.rejected tells)))

pub returns-clause-rejected : goal.returns-clause-rejected
returns-clause-rejected g c = λ tells.
    c.feed_of.ensures.rejected _ (c.in_ok-days.ensures.readable tells) (rw c.in_ok-days.ensures.reads.contents at (c.in_ok-trips.ensures.readable tells))
    (c.in_ok-days.ensures.told tells) (rw c.in_ok-days.ensures.reads.contents at (c.in_ok-trips.ensures.told tells))

pub returns-clause-told : goal.returns-clause-told
returns-clause-told g c = λ tells.
    c.feed_of.ensures.told _ (c.in_ok-days.ensures.readable tells) (rw c.in_ok-days.ensures.reads.contents at (c.in_ok-trips.ensures.readable tells))
    (c.in_ok-days.ensures.told tells) (rw c.in_ok-days.ensures.reads.contents at (c.in_ok-trips.ensures.told tells))

pub returns-clause-cause : goal.returns-clause-cause
returns-clause-cause g c = err-input g.F.Files c.feed_of.result _ _ _ c.feed_of.ensures.cause
