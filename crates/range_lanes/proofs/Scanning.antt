-- The calls at a stop.
use Rattle.std.proofs.Common.{◌≡◌, ℕ, ◌<◌, List, length, sym, ap, ◌∙◌, subst, Some}
use Rattle.std.specs.Prelude.{slice_get, Contains}
use Rattle.std.proofs.lemmas.Option.{slice_get_within, same_Some}
use Rattle.move_model.specs.declared.network.StopNo.{StopNo}
use Rattle.route_split.specs.declared.place.Place.{Place}
use Rattle.route_split.specs.declared.place.RouteCall.{RouteCall}
use Rattle.route_split.specs.Route.{Route}
use Rattle.route_split.specs.Table.{CallsAt, LendsCalls}

pub at_calls : (routes : List Route) (stop : ℕ) (calls : List RouteCall) → LendsCalls routes stop calls → (c : RouteCall) → Contains calls c → CallsAt routes stop c.route c.call
at_calls routes stop calls lends c has = (lends c.route c.call).0 has

pub call_exists : (routes : List Route) (stop : ℕ) (calls : List RouteCall) → LendsCalls routes stop calls → (c : RouteCall) → Contains calls c → c.route < length routes
call_exists routes stop calls lends c has =
    let at : CallsAt routes stop c.route c.call = at_calls routes stop calls lends c has in
    slice_get_within routes c.route at.route at.is_route

pub call_within : (routes : List Route) (stop : ℕ) (calls : List RouteCall) → LendsCalls routes stop calls → (c : RouteCall) → Contains calls c
    → (route : Route) → slice_get routes c.route ≡ Some route → c.call < length route.places
call_within routes stop calls lends c has route is =
    let at : CallsAt routes stop c.route c.call = at_calls routes stop calls lends c has in
    let same : at.route ≡ route = same_Some at.route route (sym at.is_route ∙ is) in
    subst (λ (v : Route). c.call < length v.places) same (slice_get_within at.route.places c.call at.place at.is_place)

pub call_stop : (routes : List Route) (stop : StopNo) (calls : List RouteCall) → LendsCalls routes stop.0 calls → (c : RouteCall) → Contains calls c
    → (route : Route) (place : Place) → slice_get routes c.route ≡ Some route → slice_get route.places c.call ≡ Some place → stop ≡ place.stop
call_stop routes stop calls lends c has route place is at_place =
    let at : CallsAt routes stop.0 c.route c.call = at_calls routes stop.0 calls lends c has in
    let same : at.route ≡ route = same_Some at.route route (sym at.is_route ∙ is) in
    let here : at.place ≡ place = same_Some at.place place (sym at.is_place ∙ ap (λ (v : Route). slice_get v.places c.call) same ∙ at_place) in
    ap (λ (k : ℕ). let v : StopNo = record { 0 = k } in v) (sym at.at_stop ∙ ap (λ (v : Place). v.stop.0) here)

pub has_call : (routes : List Route) (stop : ℕ) (calls : List RouteCall) → LendsCalls routes stop calls → (r i : ℕ) (route : Route) (place : Place)
    → slice_get routes r ≡ Some route → slice_get route.places i ≡ Some place → place.stop.0 ≡ stop → Contains calls (record { route = r; call = i })
has_call routes stop calls lends r i route place is at e =
    (lends r i).1 (record { route = route; place = place; is_route = is; is_place = at; at_stop = e })
