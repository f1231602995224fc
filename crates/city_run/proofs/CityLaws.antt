-- What a compiled city costs, and how many queries it has.
use Rattle.std.proofs.Common.{◌≡◌, ℕ, ◌≤◌, List, map, length, sym, ap, subst, inr, arith}
use Rattle.std.proofs.lemmas.List.{length-map}
use Rattle.std.proofs.lemmas.List.FromFn.{length-map-range_with_len}
use Rattle.move_model.specs.declared.network.Network.{Network}
use Rattle.move_model.specs.declared.query.Query.{Query}
use Rattle.route_split.specs.Route.{Route}
use Rattle.network_file.specs.declared.compiled.Compiled.{Compiled}
use Rattle.network_file.specs.Compiled.{IsRight}
use Rattle.city_maker.specs.declared.make.Generated.{Generated}
use Rattle.city_maker.specs.Asked.{query_at, city_queries}
use Rattle.city_maker.specs.City.{IsCity, first_query_draw}
use Rattle.answer_rows.specs.Counted.{IsOpenedOver, CountsFirst}
use Rattle.city_run.specs.Sent.{OpensOver}

pub opened_over : (c : Compiled) (n : Network) (queries : List Query) (before after : ℕ) → IsRight c → c.network ≡ n
    → CountsFirst (IsOpenedOver c.network (length c.table.routes)) queries before after → OpensOver n queries before after
opened_over c n queries before after right same is =
    subst (λ (n : Network). OpensOver n queries before after) same
    (inr (
      map (λ (route : Route). route.trips) c.table.routes,
      right.fits.table.routes,
      subst (λ (k : ℕ). CountsFirst (IsOpenedOver c.network k) queries before after) (sym (length-map c.table.routes (λ (route : Route). route.trips))) is,
    ))

twenty : (side number first : ℕ) → length (city_queries side number first) ≡ 20
unfolding city_queries
twenty side number first = length-map-range_with_len (query_at side number first) 0 20

pub few_queries : (side lines number : ℕ) (city : Generated) → IsCity side lines number city → length city.queries ≤ 20
few_queries side lines number city is =
    omega (arith, ap (λ (qs : List Query). length qs) is.queries, twenty side number (first_query_draw side lines))
