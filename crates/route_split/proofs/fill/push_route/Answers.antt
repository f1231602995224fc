use Rattle.route_split.proofs.FlatLemmas.{parts_fit}
use Rattle.route_split.proofs.fill.push_route.Goals as goal

pub returns-clause-heads : goal.returns-clause-heads
returns-clause-heads c =
    let is = c.in_ok-push_parts.ensures in
    λ fit. (parts_fit c.args.trips.now c.args.group.now _ _ _ _ _ _ _ _ is.seconds is.places is.trips is.heads fit).0

pub returns-clause-routes : goal.returns-clause-routes
returns-clause-routes c =
    let is = c.in_ok-push_parts.ensures in
    λ fit. (parts_fit c.args.trips.now c.args.group.now _ _ _ _ _ _ _ _ is.seconds is.places is.trips is.heads fit).1
