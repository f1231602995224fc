-- The first marked calls of routes.
use Rattle.std.proofs.Common.{ℕ, ◌<◌, List, length}
use Rattle.std.specs.Prelude.{slice_index_or}
use Rattle.std.proofs.lemmas.List.{get_or_default}
use Rattle.std.proofs.lemmas.Option.{slice_get_within}
use Rattle.route_split.specs.declared.place.RouteCall.{RouteCall}
use Rattle.route_split.specs.Route.{Route}
use Rattle.route_split.specs.Table.{LendsCalls}

pub calls_within : (routes : List Route) (stop : ℕ) (calls : List RouteCall) → LendsCalls routes stop calls → (k : ℕ) (d : RouteCall) → k < length calls
    → (slice_index_or calls k d).route < length routes
calls_within routes stop calls lends k d here =
    let rc : RouteCall = slice_index_or calls k d in
    let at = (lends rc.route rc.call).0 (k, here, get_or_default calls k rc d here) in
    slice_get_within routes rc.route at.route at.is_route
