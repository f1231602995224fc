use Rattle.std.proofs.lemmas.Result.{err_from_is_err_and}
use Rattle.top_call.proofs.CauseLemmas.{OnlyReads-trans, HasCause-later, HasCause-input, HasCause-memory}
use Rattle.top_call.specs.Words.{told}
use Rattle.top_call.specs.Input.{held}
use Rattle.top_call.specs.Turns.{IsTurn}
use Rattle.top_call.specs.Rejected.{RejectsNetwork}
use Rattle.top_call.proofs.RejectLemmas.{network_feed, network_day, network_graph, network_stops, wants_memory}
use Rattle.top_call.proofs.network.read_network.Goals as goal

pub returns-in_err-graph-clause-cause : goal.returns-in_err-graph-clause-cause
returns-in_err-graph-clause-cause g c =
    let p = err_from_is_err_and c.from_residual-in_err-graph.result c.from_residual-in_err-graph.ensures.1 in
    rw (p.1, p.2) (HasCause-later g.F.Files _ _ _ _ _ c.in_ok-feed.ensures.reads c.in_err-graph.ensures.cause)

pub returns-in_err-stops-clause-cause : goal.returns-in_err-stops-clause-cause
returns-in_err-stops-clause-cause g c =
    let p = err_from_is_err_and c.from_residual-in_err-stops.result c.from_residual-in_err-stops.ensures.1 in
    let first = c.in_ok-feed.ensures.reads in
    let second = c.in_ok-graph.ensures.reads in
    rw (p.1, p.2) (HasCause-later g.F.Files _ _ _ _ _ (OnlyReads-trans g.F.Files _ _ _ first second) c.in_err-stops.ensures.cause)

pub returns-in_err-trips-clause-cause : goal.returns-in_err-trips-clause-cause
returns-in_err-trips-clause-cause g c =
    let p = err_from_is_err_and c.from_residual-in_err-trips.result c.from_residual-in_err-trips.ensures.1 in
    rw (p.1, p.2) (HasCause-input g.F.Files _ _ _ _ c.in_err-trips.ensures.cause)

pub returns-in_err-feed-clause-rejected : goal.returns-in_err-feed-clause-rejected
returns-in_err-feed-clause-rejected g c =
    let p = err_from_is_err_and c.from_residual.result c.from_residual.ensures.1 in
    rw (p.1, p.2) (λ tells. network_feed (told c.args.plan.now) (held (told c.args.plan.now) (g.F.Files.holds c.args.files.now)) c.in_err-feed.field-0.0 (c.in_err-feed.ensures.rejected tells))

pub returns-in_err-trips-clause-rejected : goal.returns-in_err-trips-clause-rejected
returns-in_err-trips-clause-rejected g c =
    let p = err_from_is_err_and c.from_residual-in_err-trips.result c.from_residual-in_err-trips.ensures.1 in
    rw (p.1, p.2) (λ tells. network_day (told c.args.plan.now) (held (told c.args.plan.now) (g.F.Files.holds c.args.files.now)) c.in_err-trips.field-0.0 _ (c.in_ok-feed.ensures.told tells) c.in_err-trips.ensures.rejected)

pub returns-in_err-graph-clause-rejected : goal.returns-in_err-graph-clause-rejected
returns-in_err-graph-clause-rejected g c =
    let p = err_from_is_err_and c.from_residual-in_err-graph.result c.from_residual-in_err-graph.ensures.1 in
    rw (p.1, p.2) (λ tells. network_graph (told c.args.plan.now) (held (told c.args.plan.now) (g.F.Files.holds c.args.files.now)) c.in_err-graph.field-0.0 _ _ (c.in_ok-feed.ensures.told tells) c.in_ok-trips.ensures.trips
    (rw c.in_ok-feed.ensures.reads.contents at (c.in_err-graph.ensures.rejected tells)))

pub returns-in_err-stops-clause-rejected : goal.returns-in_err-stops-clause-rejected
returns-in_err-stops-clause-rejected g c =
    let p = err_from_is_err_and c.from_residual-in_err-stops.result c.from_residual-in_err-stops.ensures.1 in
    rw (p.1, p.2) (λ tells. network_stops (told c.args.plan.now) (held (told c.args.plan.now) (g.F.Files.holds c.args.files.now)) c.in_err-stops.field-0.0 _ _ _ (c.in_ok-feed.ensures.told tells) c.in_ok-trips.ensures.trips
    (rw c.in_ok-feed.ensures.reads.contents at (c.in_ok-graph.ensures.told tells))
    (rw (c.nodes.ensures.value, c.in_ok-graph.ensures.reads.contents, c.in_ok-feed.ensures.reads.contents) at (c.in_err-stops.ensures.rejected tells)))

pub returns-in_err-network-clause-rejected : goal.returns-in_err-network-clause-rejected
returns-in_err-network-clause-rejected g c =
    let p = err_from_is_err_and c.from_residual-in_err-network.result c.from_residual-in_err-network.ensures.1 in
    rw (p.1, p.2) (λ tells. wants_memory (RejectsNetwork (told c.args.plan.now) (held (told c.args.plan.now) (g.F.Files.holds c.args.files.now))) (IsTurn (told c.args.plan.now) (held (told c.args.plan.now) (g.F.Files.holds c.args.files.now))) c.in_err-network.field-0.0 c.in_err-network.ensures.wants)

pub returns-in_err-network-clause-cause : goal.returns-in_err-network-clause-cause
returns-in_err-network-clause-cause g c =
    let p = err_from_is_err_and c.from_residual-in_err-network.result c.from_residual-in_err-network.ensures.1 in
    rw (p.1, p.2) (HasCause-memory g.F.Files _ _ _ _ c.in_err-network.ensures.wants)
