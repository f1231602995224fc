use Rattle.top_call.proofs.CauseLemmas.{err-later}
use Rattle.std.proofs.Common.{refl, rules}
use Rattle.std.proofs.lemmas.Result.{err_from_is_err_and}
use Rattle.top_call.specs.Words.{told}
use Rattle.top_call.specs.Input.{held}
use Rattle.top_call.proofs.RejectLemmas.{stops_points, stops_places}
use Rattle.top_call.proofs.network.read_stops.Goals as goal

pub returns-in-None-clause-cause : goal.returns-in-None-clause-cause
returns-in-None-clause-cause g c = err-later g.F.Files c.read_places.result _ _ _ _ c.in_ok-read_points.ensures.reads c.read_places.ensures.cause

pub returns-in-Some-clause-cause : goal.returns-in-Some-clause-cause
returns-in-Some-clause-cause g c =
    err-later g.F.Files c.read_places-in-Some.result _ _ _ _ c.in_ok-read_points.ensures.reads c.read_places-in-Some.ensures.cause

pub returns-in_err-read_points-clause-rejected : goal.returns-in_err-read_points-clause-rejected
returns-in_err-read_points-clause-rejected g c =
    let p = err_from_is_err_and c.from_residual.result c.from_residual.ensures.1 in
    rw (p.1, p.2) (λ tells. stops_points (told c.args.plan.now) (held (told c.args.plan.now) (g.F.Files.holds c.args.files.now)) c.args.feed.now c.args.nodes c.in_err-read_points.field-0.0 (c.in_err-read_points.ensures.rejected tells))

pub returns-in-None-clause-rejected : goal.returns-in-None-clause-rejected
returns-in-None-clause-rejected g c = λ tells.
    stops_places c.read_places.result (told c.args.plan.now) (held (told c.args.plan.now) (g.F.Files.holds c.args.files.now)) c.args.feed.now c.args.nodes _
    (rw c.in_ok-read_points.ensures.reads.contents at (c.read_places.ensures.rejected tells)) (search rules) tt

pub returns-in-Some-clause-rejected : goal.returns-in-Some-clause-rejected
returns-in-Some-clause-rejected g c = λ tells.
    stops_places c.read_places-in-Some.result (told c.args.plan.now) (held (told c.args.plan.now) (g.F.Files.holds c.args.files.now)) c.args.feed.now c.args.nodes _
    (rw c.in_ok-read_points.ensures.reads.contents at (c.read_places-in-Some.ensures.rejected tells)) (search rules) refl
