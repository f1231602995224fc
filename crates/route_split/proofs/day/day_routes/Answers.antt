use Rattle.std.proofs.Common.{◌≡◌, ◌<◌, ◌∙◌, ℕ, List, [], length, map, get_or, sym, ap, subst}
use Rattle.std.specs.Prelude.{All}
use Rattle.route_split.specs.Route.{Route, IsRoute}
use Rattle.route_split.specs.Calls.{HoldsTrips}
use Rattle.route_split.specs.Routes.{AreRoutes}
use Rattle.route_split.specs.Fill.{built, group_of, IsGroup}
use Rattle.route_split.proofs.RoutesLemmas.{all_groups, are_routes, holds, routes_whole, trips-built}
use Rattle.route_split.proofs.day.day_routes.Goals as goal

pub filled-requires-clause-groups : goal.filled-requires-clause-groups
filled-requires-clause-groups c =
    let count = c.in_ok-split.split.count in
    let groups = c.in_ok-groups.groups.items in
    let is = c.in_ok-split.ensures in
    let are = subst (λ (l : List ℕ). (g : ℕ) → g < count → get_or groups g [] ≡ group_of l g (length l)) c.as_slice-numbers.ensures.value c.in_ok-groups.ensures.groups in
    subst (All (IsGroup c.args.trips.now)) (sym c.as_slice-lists.ensures.value)
    (all_groups c.args.trips.now c.in_ok-split.split.routes.items count groups c.requires.few is.split is.used c.in_ok-groups.ensures.as_many are)

pub returns-clause-whole : goal.returns-clause-whole
returns-clause-whole c =
    let count = c.in_ok-split.split.count in
    let groups = c.in_ok-groups.groups.items in
    let is = c.in_ok-split.ensures in
    let are = subst (λ (l : List ℕ). (g : ℕ) → g < count → get_or groups g [] ≡ group_of l g (length l)) c.as_slice-numbers.ensures.value c.in_ok-groups.ensures.groups in
    let e = c.in_ok-flat.ensures.routes ∙ ap (map (built c.args.trips.now)) c.as_slice-lists.ensures.value in
    subst (All (IsRoute c.args.stops)) (sym e)
    (routes_whole c.args.trips.now c.in_ok-split.split.routes.items count groups c.requires.few is.split is.used c.in_ok-groups.ensures.as_many are c.args.stops
    c.requires.few_calls c.requires.timed c.requires.at_stops)

pub returns-clause-routes : goal.returns-clause-routes
returns-clause-routes c =
    let trips = c.args.trips.now in
    let count = c.in_ok-split.split.count in
    let groups = c.in_ok-groups.groups.items in
    let is = c.in_ok-split.ensures in
    let are = subst (λ (l : List ℕ). (g : ℕ) → g < count → get_or groups g [] ≡ group_of l g (length l)) c.as_slice-numbers.ensures.value c.in_ok-groups.ensures.groups in
    let e = c.in_ok-flat.ensures.routes ∙ ap (map (built trips)) c.as_slice-lists.ensures.value in
    subst (λ (l : List Route). AreRoutes trips (map (λ (route : Route). route.trips) l)) (sym e)
    (subst (AreRoutes trips) (sym (trips-built trips groups))
    (are_routes trips c.in_ok-split.split.routes.items count groups c.requires.few is.split is.used c.in_ok-groups.ensures.as_many are c.requires.in_order))

pub returns-clause-rows : goal.returns-clause-rows
returns-clause-rows c =
    let count = c.in_ok-split.split.count in
    let groups = c.in_ok-groups.groups.items in
    let is = c.in_ok-split.ensures in
    let are = subst (λ (l : List ℕ). (g : ℕ) → g < count → get_or groups g [] ≡ group_of l g (length l)) c.as_slice-numbers.ensures.value c.in_ok-groups.ensures.groups in
    let e = c.in_ok-flat.ensures.routes ∙ ap (map (built c.args.trips.now)) c.as_slice-lists.ensures.value in
    subst (HoldsTrips c.args.trips.now) (sym e)
    (holds c.args.trips.now c.in_ok-split.split.routes.items count groups c.requires.few is.split is.used c.in_ok-groups.ensures.as_many are)
