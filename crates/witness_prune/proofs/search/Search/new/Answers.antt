use Rattle.std.proofs.Common.{List, subst}
use Rattle.route_split.specs.Route.{Route}
use Rattle.witness_prune.specs.Scratch.{FitsScratch}
use Rattle.witness_prune.proofs.SearchLemmas.{search_made}
use Rattle.witness_prune.proofs.search.Search.new.Goals as goal

pub invariant_of-result : goal.invariant_of-result
invariant_of-result c =
    let rows = c.args.rows.now in
    let routes = c.in_ok-routes.routes.items in
    let s = c.in_ok-scratch.scratch in
    search_made c.args.network.now rows c.args.table.now routes 0 s c.requires c.in_ok-routes.ensures.routes c.in_ok-routes.ensures.whole
    (subst (λ (rs : List Route). FitsScratch rs rows s) c.as_slice-lent.ensures.value c.in_ok-scratch.ensures)
