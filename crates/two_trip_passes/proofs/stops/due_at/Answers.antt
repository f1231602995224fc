use Rattle.std.proofs.Common.{◌∙◌, sym, subst}
use Rattle.std.proofs.lemmas.Option.{same_Some}
use Rattle.route_split.specs.Route.{Route}
use Rattle.two_trip_labels.proofs.FirstLemmas.{read_route}
use Rattle.two_trip_passes.specs.Stops.{IsDueAt}
use Rattle.two_trip_passes.proofs.stops.due_at.Goals as goal

pub returns : goal.returns
returns c = record {
  each = λ route at.
      let read = c.index-routes-call.result in
      let is = read_route c.args.routes.now c.args.call.route c.requires.exists.route read _ c.requires.exists.is_route c.index-routes-call.is in
      subst (λ (r : Route). IsDueAt r c.args.call.call c.due_of.result c.args.wanted) (same_Some read route (sym is ∙ at)) c.due_of.ensures;
}
