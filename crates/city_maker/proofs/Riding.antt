-- The trips call at stops of the city, and their seconds never fall.
use Rattle.std.proofs.Common.{◌≡◌, ℕ, ◌+◌, ◌-◌, ◌*◌, ◌<◌, ◌≤◌, ◌==◌, Bool, true, false, cond, List, [], ◌∷◌, length, arith, refl}
use Rattle.std.specs.Prelude.{All, nat_lt, map}
use Rattle.std.specs.List.{AllAdjacentBelow, range_with_len}
use Rattle.std.proofs.Math.Nat.{mul-le-mul_right}
use Rattle.std.proofs.lemmas.Bool.Decides.{nat_tests}
use Rattle.std.proofs.lemmas.List.Elements.{All-map, All-weaker}
use Rattle.std.proofs.lemmas.List.FromFn.{length-range_with_len, length-map-range_with_len, get_or-map-range_with_len}
use Rattle.move_model.specs.declared.network.Call.{Call}
use Rattle.move_model.specs.declared.network.Trip.{Trip}
use Rattle.city_maker.specs.declared.line.Line.{Line}
use Rattle.city_maker.specs.Lines.{line_at, city_lines, stops_along, stop_at, stops_of, city_stops, start, stop_of_call, call_at, trip_at, trips_at, most_starts, trips_of, city_trips}
use Rattle.city_maker.proofs.Lists.{All-flat_map, All-range, All-two, length-flat_map-eq, length-flat_map-le}

-- a trip over so many stops
pub record Rides (stops : ℕ) (trip : Trip) : Type 0 where
  pub two_calls : 2 ≤ length trip.calls
  pub few_calls : length trip.calls ≤ 50
  pub at_stops : All (λ (call : Call). call.stop.0 < stops) trip.calls
  pub stays : All (λ (call : Call). call.arr ≤ call.dep) trip.calls
  pub in_time : All (λ (call : Call). call.dep < 43000) trip.calls
  pub goes_on : AllAdjacentBelow (λ (call next : Call). call.dep ≤ next.arr) trip.calls (length trip.calls)

-- how many stops there are
pub length-city_stops : (side : ℕ) (lines : List Line) → length (city_stops side lines) ≡ length lines * stops_along side
length-city_stops side lines =
    length-flat_map-eq (stops_of side) (stops_along side) lines (λ line. length-map-range_with_len (stop_at side line) 0 (stops_along side))

stops-least : (side : ℕ) → 5 ≤ side → 2 ≤ stops_along side
stops-least side h = omega arith

stops-most : (side : ℕ) → side ≤ 200 → stops_along side ≤ 50
stops-most side h = omega arith

-- a call of a line is at one of the stops of the line
stop-below : (side many : ℕ) (line : Line) (back : Bool) (k : ℕ) → line.number < many → k < stops_along side → stop_of_call side line back k < many * stops_along side
stop-below side many line back k few h = by back
  where
    lines : (line.number + 1) * stops_along side ≤ many * stops_along side
    lines = mul-le-mul_right (stops_along side) (let h : line.number + 1 ≤ many = omega arith in h)

    by : (back : Bool) → stop_of_call side line back k < many * stops_along side
    by true = omega (arith, lines)
    by false = omega (arith, lines)

-- the seconds of one call
record Times (second k arr dep : ℕ) : Type 0 where
  arr_most : arr ≤ dep
  arr_least : 0 < k → dep ≤ arr + 20
  dep_is : dep ≡ second + 140 * k

times : (side : ℕ) (line : Line) (n : ℕ) (back : Bool) (k : ℕ) → Times (start line n) k (call_at side line n back k).arr (call_at side line n back k).dep
times side line n back k = by (k == 0) refl
  where
    by : (b : Bool) → (k == 0) ≡ b → Times (start line n) k (cond b (start line n) (start line n + 140 * k - 20)) (start line n + 140 * k)
    by true e = record { arr_most = omega arith; arr_least = λ h. absurd (grind (arith, nat_tests)); dep_is = refl }
    by false e = record { arr_most = omega arith; arr_least = λ h. omega arith; dep_is = refl }

below : (a b : ℕ) → nat_lt a b ≡ true → a < b
below a b e = grind (arith, nat_tests)

trip-rides : (side many : ℕ) (line : Line) (n : ℕ) (back : Bool) → 5 ≤ side → side ≤ 200 → line.number < many → start line n < 36000
    → Rides (many * stops_along side) (trip_at side line n back)
trip-rides side many line n back least most few early = record {
  two_calls = omega (arith, long, stops-least side least);
  few_calls = omega (arith, long, stops-most side most);
  at_stops = each (λ (call : Call). call.stop.0 < many * stops_along side) (λ k h. stop-below side many line back k few h);
  stays = each (λ (call : Call). call.arr ≤ call.dep) (λ k h. (times side line n back k).arr_most);
  in_time = each (λ (call : Call). call.dep < 43000) (λ k h. omega (arith, (times side line n back k).dep_is, stops-most side most));
  goes_on = adjacent;
}
  where
    call : ℕ → Call
    call k = call_at side line n back k

    long : length (map (call_at side line n back) (range_with_len 0 (stops_along side))) ≡ stops_along side
    long = length-map-range_with_len (call_at side line n back) 0 (stops_along side)

    each : (P : Call → Type 0) → ((k : ℕ) → k < stops_along side → P (call_at side line n back k)) → All P (map (call_at side line n back) (range_with_len 0 (stops_along side)))
    each P h = All-map P (call_at side line n back) (range_with_len 0 (stops_along side)) (All-range (λ k. P (call_at side line n back k)) 0 (stops_along side) (λ k low high. h k (omega arith)))

    adjacent : AllAdjacentBelow (λ (call next : Call). call.dep ≤ next.arr) (map (call_at side line n back) (range_with_len 0 (stops_along side))) (length (map (call_at side line n back) (range_with_len 0 (stops_along side))))
    adjacent k d h =
        let within : k + 1 < stops_along side = omega (arith, long) in
        rw (
          get_or-map-range_with_len (call_at side line n back) 0 (stops_along side) k k d (omega arith) (omega arith),
          get_or-map-range_with_len (call_at side line n back) 0 (stops_along side) (k + 1) (k + 1) d within (omega arith),
        )
        (omega (arith, (times side line n back k).dep_is, (times side line n back (k + 1)).dep_is, (times side line n back (k + 1)).arr_least (omega arith)))

pub trips-ride : (side many : ℕ) (lines : List Line) → 5 ≤ side → side ≤ 200 → All (λ (line : Line). line.number < many) lines
    → All (Rides (many * stops_along side)) (city_trips side lines)
unfolding trips_of
trips-ride side many lines least most few =
    All-flat_map (Rides (many * stops_along side)) (trips_of side) lines
    (All-weaker (λ (line : Line). line.number < many) (λ (line : Line). All (Rides (many * stops_along side)) (trips_of side line)) of lines few)
  where
    at : (line : Line) → line.number < many → (n : ℕ) → All (Rides (many * stops_along side)) (trips_at side line n)
    at line low n =
        All-two (Rides (many * stops_along side)) (nat_lt (start line n) 36000) (trip_at side line n false) (trip_at side line n true)
        (λ e. let early : start line n < 36000 = below (start line n) 36000 e in
        (trip-rides side many line n false least most low early, trip-rides side many line n true least most low early))

    of : (line : Line) → line.number < many → All (Rides (many * stops_along side)) (trips_of side line)
    of line low =
        All-flat_map (Rides (many * stops_along side)) (trips_at side line) (range_with_len 0 most_starts)
        (All-range (λ n. All (Rides (many * stops_along side)) (trips_at side line n)) 0 most_starts (λ n _ _. at line low n))

pub few-trips : (side : ℕ) (lines : List Line) → length (city_trips side lines) ≤ length lines * 96
unfolding trips_of
few-trips side lines = length-flat_map-le (trips_of side) 96 lines of
  where
    two : (b : Bool) (x y : Trip) → length (cond b (x ∷ y ∷ []) []) ≤ 2
    two true x y = omega arith
    two false x y = omega arith

    of : (line : Line) → length (trips_of side line) ≤ 96
    of line =
        omega (
          arith,
          length-flat_map-le (trips_at side line) 2 (range_with_len 0 most_starts) (λ n. two (nat_lt (start line n) 36000) (trip_at side line n false) (trip_at side line n true)),
          length-range_with_len 0 most_starts,
        )

pub numbers-below : (side number many : ℕ) → All (λ (line : Line). line.number < many) (city_lines side number many)
numbers-below side number many =
    All-map (λ (line : Line). line.number < many) (line_at side number) (range_with_len 0 many) (All-range (λ l. l < many) 0 many (λ l low high. omega arith))

pub length-city_lines : (side number many : ℕ) → length (city_lines side number many) ≡ many
length-city_lines side number many = length-map-range_with_len (line_at side number) 0 many
