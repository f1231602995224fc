use Rattle.std.proofs.Common.{◌≡◌, ◌+◌, ◌-◌, ◌*◌, length, refl, subst, take, drop}
use Rattle.route_split.specs.Route.{Route, arrivals_of}
use Rattle.route_split.proofs.rows.RouteRows.arrives.Goals as goal

pub returns-clause-arrives : goal.returns-clause-arrives
unfolding arrivals_of
returns-clause-arrives c =
    let count = length c.self.inside.trips.now in
    let at = 2 * c.args.call * count in
    subst (λ (r : Route). take (at + count - at) (drop at c.self.inside.seconds.now) ≡ arrivals_of r c.args.call) c.self.view_is refl
