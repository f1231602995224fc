use Rattle.std.proofs.Common.{◌≡◌, ◌+◌, ℕ, All, List, length, refl, subst, ap, ◌∙◌}
use Rattle.move_model.specs.declared.network.Trip.{Trip}
use Rattle.city_maker.specs.Lines.{Fits, city_lines, city_stops, city_trips}
use Rattle.city_maker.specs.Streets.{city_streets, city_arcs}
use Rattle.city_maker.specs.Asked.{city_queries}
use Rattle.city_maker.specs.Order.{IsNumbered}
use Rattle.city_maker.proofs.Rules.{rules, numbered, asked}
use Rattle.city_maker.proofs.make.city.Goals as goal

pub returns-clause-city : goal.returns-clause-city
returns-clause-city c =
    let side = c.args.side in
    let lines = c.args.lines in
    let seed = c.in_ok-drawn.ensures.number ∙ c.new-draws.ensures.number in
    let made = c.in_ok-drawn.ensures.made in
    let drawn : c.in_ok-drawn.drawn.items ≡ city_lines side c.args.number lines =
    c.in_ok-drawn.ensures.lines ∙ ap (λ (s : ℕ). city_lines side s lines) c.new-draws.ensures.number in
    record {
      nodes = refl;
      arcs = c.in_ok-arcs.ensures.arcs ∙ (λ i. city_arcs side (seed i) (made i));
      stops = c.in_ok-stops.ensures ∙ ap (city_stops side) (c.as_slice.ensures.value ∙ drawn);
      trips = subst (λ (trips : List Trip). IsNumbered trips c.in_ok-trips.trips) (c.in_ok-city_trips.ensures ∙ ap (city_trips side) (c.as_slice-2.ensures.value ∙ drawn)) c.in_ok-trips.ensures;
      no_buffer = refl;
      queries =
          c.in_ok-queries.ensures
          ∙ (λ i. city_queries side ((c.in_ok-arcs.ensures.number ∙ seed) i) ((c.in_ok-arcs.ensures.made ∙ ap (λ (m : ℕ). m + length (city_streets side)) made) i));
    }

pub returns-clause-rules : goal.returns-clause-rules
returns-clause-rules c =
    let drawn : c.in_ok-drawn.drawn.items ≡ city_lines c.args.side c.args.number c.args.lines =
    c.in_ok-drawn.ensures.lines ∙ ap (λ (s : ℕ). city_lines c.args.side s c.args.lines) c.new-draws.ensures.number in
    let fit : All (Fits c.args.side) (city_lines c.args.side c.args.number c.args.lines) = subst (All (Fits c.args.side)) drawn c.in_ok-drawn.ensures.fit in
    rules c.args.side c.args.lines c.args.number _ c.requires.least c.requires.most (returns-clause-city c) fit

pub returns-clause-numbered : goal.returns-clause-numbered
returns-clause-numbered c = numbered c.args.side c.args.lines c.args.number _ c.requires.least c.requires.most c.requires.few (returns-clause-city c)

pub returns-clause-asked : goal.returns-clause-asked
returns-clause-asked c = asked c.args.side c.args.lines c.args.number _ c.requires.least (returns-clause-city c)
