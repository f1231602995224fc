use Rattle.std.proofs.Common.{List, sym, subst}
use Rattle.route_split.specs.Route.{Route}
use Rattle.witness_prune.specs.Scratch.{FitsScratch}
use Rattle.witness_prune.specs.Search.{AreParts}
use Rattle.witness_prune.proofs.SearchLemmas.{search_made, search_begun}
use Rattle.witness_prune.proofs.two_trip.TwoTrip.start.Goals as goal

pub invariant_of-result : goal.invariant_of-result
invariant_of-result c =
    let n = c.args.network.now in
    let rows = c.in_ok-rows.rows in
    let table = c.args.table.now in
    let routes = c.in_ok-routes.routes.items in
    let s = c.in_ok-scratch.scratch in
    let place = c.place-place.result in
    let parts : AreParts n rows table = record {
      rules = c.requires.rules;
      few = c.requires.few;
      rows_are = c.in_ok-rows.ensures;
      table_is = c.requires.table;
      routes_are = c.requires.routes;
    } in
    let fits = subst (λ (rs : List Route). FitsScratch rs rows s) c.as_slice-lent.ensures.value c.in_ok-scratch.ensures in
    let made = search_made n rows table routes place s parts c.in_ok-routes.ensures.routes c.in_ok-routes.ensures.whole fits in
    record {
      search = search_begun n rows table routes place place 0 s c.begin.new.self made c.place-place.ensures.exists
          (c.begin.ensures.fits routes fits) (c.begin.ensures.foot routes fits) (c.begin.ensures.none routes fits);
      exists = c.requires.stop;
      stands = sym c.place-place.ensures.value;
    }
