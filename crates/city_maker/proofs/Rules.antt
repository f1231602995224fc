-- A city keeps the rules of a network, and its queries fit it.
use Rattle.std.proofs.Common.{◌≡◌, ℕ, ◌+◌, ◌*◌, ◌%◌, ◌<◌, ◌≤◌, Bool, true, false, cond, List, length, sym, subst, arith}
use Rattle.std.specs.Prelude.{All, nat_lt}
use Rattle.std.specs.List.{range_with_len}
use Rattle.std.proofs.Math.Nat.{mul-le-mul_right}
use Rattle.std.proofs.lemmas.List.Sorted.{All-permutation, length_permutation}
use Rattle.std.proofs.lemmas.List.Elements.{All-map, All-weaker, All-same}
use Rattle.move_model.specs.declared.network.Arc.{Arc}
use Rattle.move_model.specs.declared.network.Call.{Call}
use Rattle.move_model.specs.declared.network.Network.{Network}
use Rattle.move_model.specs.declared.network.Stop.{Stop}
use Rattle.move_model.specs.declared.network.Trip.{Trip}
use Rattle.move_model.specs.declared.query.Place.{Place}
use Rattle.move_model.specs.declared.query.Query.TheVariants as query
use Rattle.move_model.specs.Streets.{IsVertex}
use Rattle.move_model.specs.Network.{streets, IsNetwork, IsTrip}
use Rattle.move_model.specs.Network as net
use Rattle.move_model.specs.Check.{KeepsRules, IsShort, Stays}
use Rattle.city_maker.specs.declared.make.Generated.{Generated}
use Rattle.city_maker.specs.Draws.{draw}
use Rattle.city_maker.specs.Lines.{Fits, city_lines, stops_along, city_stops, city_trips}
use Rattle.city_maker.specs.Streets.{city_arcs}
use Rattle.city_maker.specs.Asked.{place_at, second_at, query_at, city_queries, IsAsked}
use Rattle.city_maker.specs.City.{IsCity, first_street_draw, first_query_draw}
use Rattle.city_maker.proofs.Lists.{All-range}
use Rattle.city_maker.proofs.Vertices.{IsCityArc, arcs-join, IsCityVertex, stops-stand}
use Rattle.city_maker.proofs.Riding.{Rides, trips-ride, few-trips, length-city_stops, numbers-below, length-city_lines}

many_vertices : (side : ℕ) → 5 ≤ side → side ≤ 200 → (25 ≤ side * side) × (side * side ≤ 40000)
many_vertices side least most =
    let low : 5 * side ≤ side * side = mul-le-mul_right side least in
    let high : side * side ≤ 200 * side = mul-le-mul_right side most in
    (omega (arith, low), omega (arith, high))

pub rules : (side lines number : ℕ) (city : Generated) → 5 ≤ side → side ≤ 200 → IsCity side lines number city → All (Fits side) (city_lines side number lines)
    → KeepsRules city.network
rules side lines number city least most is fit = record {
  network = record {
    streets_join = record { has_node = omega (arith, nodes, vertices.0); arcs_join = All-weaker (IsCityArc (side * side)) (λ (arc : Arc). IsVertex (streets n) arc.from × IsVertex (streets n) arc.to) ends n.arcs arcs };
    stops_stand = All-weaker (λ (stop : Stop). IsCityVertex (side * side) stop.node) (λ (stop : Stop). IsVertex (streets n) stop.node) stands n.stops stops;
    trips_go = All-weaker (Rides (lines * stops_along side)) (IsTrip n) goes n.trips trips;
    trips_in_order = is.trips.by_seconds;
  };
  has_nodes = (omega (arith, nodes, vertices.0), omega (arith, nodes, vertices.1));
  arcs_short = All-weaker (IsCityArc (side * side)) IsShort (λ arc (a, b, c, d, short). omega (arith, short)) n.arcs arcs;
  within_day = All-weaker (Rides (lines * stops_along side)) (λ (trip : Trip). All Stays trip.calls) in_day n.trips trips;
  buffer = omega (arith, is.no_buffer);
}
  where
    n : Network
    n = city.network

    nodes : city.network.nodes ≡ side * side
    nodes = is.nodes

    vertices : (25 ≤ side * side) × (side * side ≤ 40000)
    vertices = many_vertices side least most

    arcs : All (IsCityArc (side * side)) city.network.arcs
    arcs = All-same (IsCityArc (side * side)) city.network.arcs (city_arcs side number (first_street_draw lines)) is.arcs (arcs-join side number (first_street_draw lines) (omega arith))

    stops : All (λ (stop : Stop). IsCityVertex (side * side) stop.node) city.network.stops
    stops = All-same (λ (stop : Stop). IsCityVertex (side * side) stop.node) city.network.stops (city_stops side (city_lines side number lines)) is.stops (stops-stand side (city_lines side number lines) fit)

    trips : All (Rides (lines * stops_along side)) city.network.trips
    trips =
        All-permutation (Rides (lines * stops_along side)) (city_trips side (city_lines side number lines)) city.network.trips is.trips.same_trips
        (trips-ride side lines (city_lines side number lines) least most (numbers-below side number lines))

    long : length city.network.stops ≡ lines * stops_along side
    long = subst (λ (xs : List Stop). length xs ≡ lines * stops_along side) (sym is.stops)
        (subst (λ (k : ℕ). length (city_stops side (city_lines side number lines)) ≡ k * stops_along side) (length-city_lines side number lines) (length-city_stops side (city_lines side number lines)))

    ends : (arc : Arc) → IsCityArc (side * side) arc → IsVertex (streets city.network) arc.from × IsVertex (streets city.network) arc.to
    ends arc (a, b, c, d, short) = (record { from_one = a; to_nodes = omega (arith, b, nodes) }, record { from_one = c; to_nodes = omega (arith, d, nodes) })

    stands : (stop : Stop) → IsCityVertex (side * side) stop.node → IsVertex (streets city.network) stop.node
    stands stop (a, b) = record { from_one = a; to_nodes = omega (arith, b, nodes) }

    goes : (trip : Trip) → Rides (lines * stops_along side) trip → IsTrip city.network trip
    goes trip rides = record {
      two_calls = rides.two_calls;
      at_stops = All-weaker (λ (call : Call). call.stop.0 < lines * stops_along side) (λ (call : Call). call.stop.0 < length city.network.stops) (λ call h. omega (arith, h, long)) trip.calls rides.at_stops;
      stays = rides.stays;
      goes_on = rides.goes_on;
    }

    in_day : (trip : Trip) → Rides (lines * stops_along side) trip → All Stays trip.calls
    in_day trip rides = λ k d h. (rides.stays k d h, let early = rides.in_time k d h in omega (arith, early))

pub numbered : (side lines number : ℕ) (city : Generated) → 5 ≤ side → side ≤ 200 → lines ≤ 200 → IsCity side lines number city → net.IsNumbered city.network
numbered side lines number city least most few is = record {
  trips = omega (
    arith,
    length_permutation (city_trips side (city_lines side number lines)) city.network.trips is.trips.same_trips,
    few-trips side (city_lines side number lines),
    length-city_lines side number lines,
  );
  calls = All-weaker (Rides (lines * stops_along side)) (λ (trip : Trip). length trip.calls ≤ 4294967296) (λ trip rides. let short = rides.few_calls in omega (arith, short)) city.network.trips
      (All-permutation (Rides (lines * stops_along side)) (city_trips side (city_lines side number lines)) city.network.trips is.trips.same_trips
      (trips-ride side lines (city_lines side number lines) least most (numbers-below side number lines)));
}

pub asked : (side lines number : ℕ) (city : Generated) → 5 ≤ side → IsCity side lines number city → All (IsAsked city.network) city.queries
unfolding city_queries
asked side lines number city least is =
    All-same (IsAsked city.network) city.queries (city_queries side number (first_query_draw side lines)) is.queries
    (All-map (IsAsked city.network) (query_at side number (first_query_draw side lines)) (range_with_len 0 20)
    (All-range (λ q. IsAsked city.network (query_at side number (first_query_draw side lines) q)) 0 20 (λ q _ _. at q)))
  where
    some : 0 < side * side
    some = let low : 5 * side ≤ side * side = mul-le-mul_right side least in omega (arith, low)

    place : (k : ℕ) → IsVertex (streets city.network) (place_at side number k).node
    place k = by (draw number k) (side * side) some is.nodes
      where
        by : (d m : ℕ) → 0 < m → city.network.nodes ≡ m → IsVertex (streets city.network) (record { 0 = 1 + d % m })
        by d m h e = record { from_one = omega arith; to_nodes = omega (arith, e) }

    second : (k : ℕ) → second_at number k < 36000
    second k = omega arith

    with : (b : Bool) (from to : Place) (s : ℕ) → IsVertex (streets city.network) from.node → IsVertex (streets city.network) to.node → s < 36000
        → IsAsked city.network (cond b (query.At from to s 4) (query.Range from to s (s + 1799) 4))
    with true from to s a b c = (a, b, omega (arith, c), omega arith)
    with false from to s a b c = (a, b, omega arith, omega (arith, c), omega arith, omega arith)

    at : (q : ℕ) → IsAsked city.network (query_at side number (first_query_draw side lines) q)
    at q =
        let k = first_query_draw side lines + 3 * q in
        with (nat_lt q 16) (place_at side number k) (place_at side number (k + 1)) (second_at number (k + 2)) (place k) (place (k + 1)) (second (k + 2))
