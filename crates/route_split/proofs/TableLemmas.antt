-- A table's parts by their places.
use Rattle.std.proofs.Common.{◌≡◌, ℕ, ◌+◌, ◌-◌, ◌<◌, List, get_or, take, drop, subst, sym, ◌∙◌, arith, Some}
use Rattle.std.specs.Prelude.{All, slice_get}
use Rattle.std.proofs.lemmas.List.{get_or_default}
use Rattle.std.proofs.lemmas.List.Elements.{All-get_or}
use Rattle.std.proofs.lemmas.Option.{slice_get_within, get_or_from_slice_get}
use Rattle.route_split.specs.declared.place.RouteCall.{RouteCall}
use Rattle.route_split.specs.Route.{Route, IsRoute}
use Rattle.route_split.specs.Table.{LendsCalls, RiseByRoute, IsIndex}

-- a route of the table is whole
pub route_at : (stops : ℕ) (routes : List Route) (r : ℕ) (route : Route) → All (IsRoute stops) routes → slice_get routes r ≡ Some route → IsRoute stops route
route_at stops routes r route whole at =
    subst (IsRoute stops) (get_or_from_slice_get routes r route route at)
    (All-get_or (IsRoute stops) routes r route (slice_get_within routes r route at) whole)

-- the calls of a stop
pub calls_at : (routes : List Route) (stops : ℕ) (firsts : List ℕ) (calls : List RouteCall) → IsIndex routes stops firsts calls
    → (x from to : ℕ) → x < stops → from ≡ get_or firsts x from → to ≡ get_or firsts (x + 1) to → LendsCalls routes x (take (to - from) (drop from calls))
calls_at routes stops firsts calls index x from to here e f =
    let from_is : get_or firsts x 0 ≡ from = get_or_default firsts x 0 from (omega (arith, index.one_more)) ∙ sym e in
    let to_is : get_or firsts (x + 1) 0 ≡ to = get_or_default firsts (x + 1) 0 to (omega (arith, index.one_more)) ∙ sym f in
    subst (λ a. LendsCalls routes x (take (to - a) (drop a calls))) from_is
    (subst (λ b. LendsCalls routes x (take (b - get_or firsts x 0) (drop (get_or firsts x 0) calls))) to_is (index.exact x here))

-- they stand in order
pub calls_rise : (routes : List Route) (stops : ℕ) (firsts : List ℕ) (calls : List RouteCall) → IsIndex routes stops firsts calls
    → (x from to : ℕ) → x < stops → from ≡ get_or firsts x from → to ≡ get_or firsts (x + 1) to → RiseByRoute (take (to - from) (drop from calls))
calls_rise routes stops firsts calls index x from to here e f =
    let from_is : get_or firsts x 0 ≡ from = get_or_default firsts x 0 from (omega (arith, index.one_more)) ∙ sym e in
    let to_is : get_or firsts (x + 1) 0 ≡ to = get_or_default firsts (x + 1) 0 to (omega (arith, index.one_more)) ∙ sym f in
    subst (λ a. RiseByRoute (take (to - a) (drop a calls))) from_is
    (subst (λ b. RiseByRoute (take (b - get_or firsts x 0) (drop (get_or firsts x 0) calls))) to_is (index.in_order x here))
