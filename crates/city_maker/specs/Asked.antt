-- The queries over a city.
--     query_at side number first q   query q, from 0, where the draw `first` is the first of all queries
--     city_queries side number first the twenty queries
--     IsAsked n query                the query fits the network n, and its window is short
use Rattle.std.specs.Prelude.{ℕ, ◌+◌, ◌-◌, ◌*◌, ◌%◌, ◌≤◌, nat_lt, if◌then◌else◌, List, ◌++◌, map, codes, decimal}
use Rattle.std.specs.List.{range_with_len}
use Rattle.move_model.specs.declared.network.Network.{Network}
use Rattle.move_model.specs.declared.query.Place.{Place}
use Rattle.move_model.specs.declared.query.Query.{Query}
use Rattle.move_model.specs.declared.query.Query.TheVariants as query
use Rattle.move_model.specs.Streets.{IsVertex}
use Rattle.move_model.specs.Network.{streets}
use Rattle.city_maker.specs.Draws.{draw}
use Rattle.city_maker.specs.Streets.{node}

abbrev pub place_of : ℕ → Place
place_of v = record { node = node v; word = codes "node:" ++ decimal v }

-- a vertex by draw k
abbrev pub place_at : ℕ → ℕ → ℕ → Place
place_at side number k = place_of (1 + draw number k % (side * side))

-- a second from 06:30:00 to 08:29:59 by draw k
abbrev pub second_at : ℕ → ℕ → ℕ
second_at number k = 23400 + draw number k % 7200

-- the first sixteen leave at a second, the others within half an hour
abbrev pub query_with : ℕ → Place → Place → ℕ → Query
query_with q from to second = if nat_lt q 16 then query.At from to second 4 else query.Range from to second (second + 1799) 4

abbrev pub query_at : ℕ → ℕ → ℕ → ℕ → Query
query_at side number first q =
    query_with q (place_at side number (first + 3 * q)) (place_at side number (first + 3 * q + 1)) (second_at number (first + 3 * q + 2))

unfoldable pub city_queries : ℕ → ℕ → ℕ → List Query
city_queries side number first = map (query_at side number first) (range_with_len 0 20)

-- its places are vertices, its seconds are of the service day, its window is half an hour at most, and its limit is at most 16
abbrev pub IsAsked : Network → Query → Type 0
IsAsked n (query.At from to depart limit) =
    IsVertex (streets n) from.node × IsVertex (streets n) to.node × (depart ≤ 3599999) × (limit ≤ 16)
IsAsked n (query.Range from to first last limit) =
    IsVertex (streets n) from.node × IsVertex (streets n) to.node × (first ≤ last) × (last ≤ 3599999) × (last - first + 1 ≤ 1800) × (limit ≤ 16)
