use Rattle.std.proofs.Common.{◌≡◌, ◌+◌, ◌-◌, ◌*◌, length, refl, subst, take, drop}
use Rattle.route_split.specs.Route.{Route, departures_of}
use Rattle.route_split.proofs.rows.RouteRows.departs.Goals as goal

pub returns-clause-departs : goal.returns-clause-departs
unfolding departures_of
returns-clause-departs c =
    let count = length c.self.inside.trips.now in
    let at = (2 * c.args.call + 1) * count in
    subst (λ (r : Route). take (at + count - at) (drop at c.self.inside.seconds.now) ≡ departures_of r c.args.call) c.self.view_is refl
