use Rattle.std.proofs.Common.{◌<◌, ◌≤◌, ◌++◌, ◌∷◌, [], List, length, take, sym, ap, subst, ◌∙◌, arith}
use Rattle.std.proofs.lemmas.List.{length_push, length-set, length-replicate, take_more, take_all}
use Rattle.std.proofs.lemmas.Option.{get_or_from_slice_get}
use Rattle.std.specs.Prelude.{All, Bool, true, false, slice_get}
use Rattle.route_split.specs.Route.{Route, IsRoute}
use Rattle.witness_prune.proofs.OpenLemmas.{set_other, none_marked}
use Rattle.witness_prune.proofs.open.open_counted.Goals as goal

pub loop-route-init : goal.loop-route-init
loop-route-init g c = record {
  routes = c.in_ok-routes.ensures.items;
  many = ap length c.in_ok-routes.ensures.items;
  room = omega (arith, c.in_ok-routes.ensures.capacity, c.routes-count.ensures.count);
  marks = ap length c.in_ok-marks.ensures ∙ length-replicate (length c.args.table.now.routes) false;
  unmarked = λ r le lt. ap (λ (ms : List Bool). slice_get ms r) c.in_ok-marks.ensures ∙ none_marked (length c.args.table.now.routes) r lt;
}

pub open_route-rows-requires-clause-unmarked : goal.open_route-rows-requires-clause-unmarked
open_route-rows-requires-clause-unmarked g c = c.loop-route.invariant.unmarked c.loop-route.route (omega arith) (omega (arith, c.routes-count.ensures.count))

pub loop-route-preserved : goal.loop-route-preserved
loop-route-preserved g c =
    let rs = c.args.table.now.routes in
    let i = c.loop-route.route in
    let was = c.loop-route.invariant in
    let r = c.open_route-rows.result in
    let low : i < length rs = omega (arith, c.routes-count.ensures.count) in
    let at = get_or_from_slice_get rs i r r c.open_route-rows.ensures.rows in
    let marked = c.open_route-rows.ensures.marked in
    rw (c.push_reserved.ensures.items, c.push_reserved.ensures.capacity)
    (record {
      routes = ap (λ (xs : List Route). xs ++ r ∷ []) was.routes ∙ ap (λ (o : Route). take i rs ++ o ∷ []) (sym at) ∙ sym (take_more rs i r low);
      many = omega (arith, length_push c.loop-route.routes.items r, was.many);
      room = was.room;
      marks = ap length marked ∙ length-set c.loop-route.marks i true ∙ was.marks;
      unmarked = λ k le lt. ap (λ (ms : List Bool). slice_get ms k) marked ∙ set_other c.loop-route.marks i k true (λ e. omega (arith, le, e)) ∙ was.unmarked k (omega (arith, le)) lt;
    })

pub returns-clause-routes : goal.returns-clause-routes
returns-clause-routes g c =
    let all : length c.args.table.now.routes ≤ c.loop-route.route = omega (arith, c.routes-count.ensures.count) in
    c.loop-route.invariant.routes ∙ take_all c.loop-route.route c.args.table.now.routes all

pub returns-clause-whole : goal.returns-clause-whole
returns-clause-whole g c =
    let all : length c.args.table.now.routes ≤ c.loop-route.route = omega (arith, c.routes-count.ensures.count) in
    subst (λ (rs : List Route). All (IsRoute c.args.table.now.stops) rs) (sym (c.loop-route.invariant.routes ∙ take_all c.loop-route.route c.args.table.now.routes all)) c.routes-count.ensures.whole
