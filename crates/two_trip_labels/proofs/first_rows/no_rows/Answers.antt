use Rattle.std.proofs.Common.{◌≡◌, ℕ, length, Vec, Global, get_or, sym, ap, ◌∙◌, inl, inr, arith}
use Rattle.std.proofs.lemmas.Bool.{cases_eq}
use Rattle.std.proofs.lemmas.List.{length_push, length-map, get_or_read}
use Rattle.std.proofs.lemmas.Option.{slice_get_within, get_or_from_slice_get}
use Rattle.std.specs.Prelude.{replicate}
use Rattle.route_split.specs.Route.{Route}
use Rattle.piece_laws.specs.Tables.{never}
use Rattle.two_trip_labels.proofs.FreshLemmas.{pushed_old, pushed_last}
use Rattle.two_trip_labels.proofs.first_rows.no_rows.Goals as goal

pub loop-route-preserved : goal.loop-route-preserved
loop-route-preserved c =
    let rows = c.loop-route.rows.items in
    let row = c.in_ok-row.row in
    let routes = c.args.routes.now in
    let i = c.loop-route.route-index in
    let was = c.loop-route.invariant in
    rw (c.push_reserved.ensures.items, c.push_reserved.ensures.capacity)
    (record {
      many = omega (arith, length_push rows row, was.many);
      room = was.room;
      none = λ r route lt is. elim (cases_eq r i) [
        | inl e ↦
            let at : c.route-item.result ≡ get_or routes i route = get_or_read routes i c.route-item.result c.loop-route-test.true c.route-item.is route in
            let here : c.route-item.result ≡ route = at ∙ ap (λ (k : ℕ). get_or routes k route) (sym e) ∙ get_or_from_slice_get routes r route route is in
            let long : length c.route-item.result.places ≡ length route.places = ap (λ (o : Route). length o.places) here in
            pushed_last rows row r (e ∙ sym was.many) ∙ c.in_ok-row.ensures ∙ ap (λ (m : ℕ). replicate m never) (c.calls.ensures ∙ long)
        | inr ne ↦ pushed_old rows row r (omega (arith, lt, ne, was.many)) ∙ was.none r route (omega (arith, lt, ne)) is
      ];
    })

pub returns : goal.returns
returns c = record {
  many = length-map c.loop-route.rows.items (λ (row : Vec ℕ Global). row.items) ∙ omega arith;
  each = λ r route is. c.loop-route.invariant.none r route (omega (arith, slice_get_within c.args.routes.now r route is, c.loop-route-test.false)) is;
}
