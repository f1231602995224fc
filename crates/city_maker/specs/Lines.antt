-- The lines of a city, with their stops and trips.
--     line_at side number l      the line l, by the draws 3 l, 3 l + 1 and 3 l + 2
--     city_lines side number many   the lines, from 0
--     Fits side line             the line lies in the city, and runs every five to fifteen minutes
--     stops_along side           how many stops a line has
--     stop_at side line i        stop i of the line
--     city_stops side lines      the stops, by line and then along the line
--     start line n               the second at which the line's trips number n leave
--     trip_at side line n back   the forward trip number n, or the backward trip
--     city_trips side lines      the trips, by line and then by start, each forward trip before the backward trip
use Rattle.std.specs.Prelude.{ℕ, ◌+◌, ◌-◌, ◌*◌, ◌%◌, ◌<◌, ◌≤◌, ◌==◌, Bool, true, false, nat_lt, if◌then◌else◌, List, [], ◌∷◌, ◌++◌, map, codes, decimal}
use Rattle.std.specs.Int.{div_ceil}
use Rattle.std.specs.List.{flat_map, range_with_len}
use Rattle.move_model.specs.declared.network.NodeNo.{NodeNo}
use Rattle.move_model.specs.declared.network.Stop.{Stop}
use Rattle.move_model.specs.declared.network.Call.{Call}
use Rattle.move_model.specs.declared.network.Trip.{Trip}
use Rattle.city_maker.specs.declared.line.Line.{Line}
use Rattle.city_maker.specs.Draws.{draw}
use Rattle.city_maker.specs.Streets.{vertex}

-- from 300 seconds to 900, in whole minutes
abbrev pub headway_at : ℕ → ℕ → ℕ
headway_at number l = 300 + 60 * (draw number (3 * l + 1) % 11)

abbrev pub line_at : ℕ → ℕ → ℕ → Line
line_at side number l = record {
  number = l;
  place = draw number (3 * l) % side;
  headway = headway_at number l;
  offset = draw number (3 * l + 2) % headway_at number l;
}

abbrev pub city_lines : ℕ → ℕ → ℕ → List Line
city_lines side number many = map (line_at side number) (range_with_len 0 many)

pub record Fits (side : ℕ) (line : Line) : Type 0 where
  pub number : line.number < 200
  pub place : line.place < side
  pub least : 300 ≤ line.headway
  pub most : line.headway ≤ 900
  pub offset : line.offset < line.headway

-- at the places 0, 4, 8 and so on below `side`
abbrev pub stops_along : ℕ → ℕ
stops_along side = div_ceil side 4

-- an even line runs along the row of its place, an odd line along the column
abbrev pub stop_node : ℕ → Line → ℕ → NodeNo
stop_node side line i = if line.number % 2 == 0 then vertex side line.place (4 * i) else vertex side (4 * i) line.place

-- L, the line's number, the letter, and the other number
abbrev pub name_at : Line → List ℕ → ℕ → List ℕ
name_at line letter n = codes "L" ++ decimal line.number ++ letter ++ decimal n

abbrev pub stop_at : ℕ → Line → ℕ → Stop
stop_at side line i = record { node = stop_node side line i; name = name_at line (codes "_") i }

abbrev pub stops_of : ℕ → Line → List Stop
stops_of side line = map (stop_at side line) (range_with_len 0 (stops_along side))

abbrev pub city_stops : ℕ → List Line → List Stop
city_stops side lines = flat_map (stops_of side) lines

-- 06:00:00 and the offset, and then one headway apart
abbrev pub start : Line → ℕ → ℕ
start line n = 21600 + line.offset + n * line.headway

-- the number of the stop at which call k is: a backward trip goes from the line's last stop to its first
abbrev pub stop_of_call : ℕ → Line → Bool → ℕ → ℕ
stop_of_call side line back k = line.number * stops_along side + (if back then stops_along side - 1 - k else k)

-- each call departs 140 seconds after the one before, and arrives 20 seconds before it departs, but for the first
abbrev pub call_at : ℕ → Line → ℕ → Bool → ℕ → Call
call_at side line n back k = record {
  stop = record { 0 = stop_of_call side line back k };
  arr = if k == 0 then start line n else start line n + 140 * k - 20;
  dep = start line n + 140 * k;
  board = true;
  alight = true;
}

abbrev pub trip_at : ℕ → Line → ℕ → Bool → Trip
trip_at side line n back = record {
  name = name_at line (if back then codes "B" else codes "F") n;
  calls = map (call_at side line n back) (range_with_len 0 (stops_along side));
}

-- the two trips of a start before 10:00:00
abbrev pub trips_at : ℕ → Line → ℕ → List Trip
trips_at side line n = if nat_lt (start line n) 36000 then trip_at side line n false ∷ trip_at side line n true ∷ [] else []

-- a headway is 300 seconds or more, so no later start is before 10:00:00
abbrev pub most_starts : ℕ
most_starts = 48

unfoldable pub trips_of : ℕ → Line → List Trip
trips_of side line = flat_map (trips_at side line) (range_with_len 0 most_starts)

abbrev pub city_trips : ℕ → List Line → List Trip
city_trips side lines = flat_map (trips_of side) lines
