-- The generated city.
--     IsCity side lines number city   the city is that of these three numbers
use Rattle.std.specs.Prelude.{◌≡◌, ℕ, ◌+◌, ◌*◌, length}
use Rattle.city_maker.specs.declared.make.Generated.{Generated}
use Rattle.city_maker.specs.Lines.{city_lines, city_stops, city_trips}
use Rattle.city_maker.specs.Streets.{city_streets, city_arcs}
use Rattle.city_maker.specs.Asked.{city_queries}
use Rattle.city_maker.specs.Order.{IsNumbered}

-- the lines take three draws each
abbrev pub first_street_draw : ℕ → ℕ
first_street_draw lines = 3 * lines

-- the streets take one draw each
abbrev pub first_query_draw : ℕ → ℕ → ℕ
first_query_draw side lines = 3 * lines + length (city_streets side)

-- The draws are made in this order: those of the lines, those of the streets, those of the queries.
pub record IsCity (side lines number : ℕ) (city : Generated) : Type 0 where
  pub nodes : city.network.nodes ≡ side * side
  pub arcs : city.network.arcs ≡ city_arcs side number (first_street_draw lines)
  pub stops : city.network.stops ≡ city_stops side (city_lines side number lines)
  pub trips : IsNumbered (city_trips side (city_lines side number lines)) city.network.trips
  pub no_buffer : city.network.buffer ≡ 0
  pub queries : city.queries ≡ city_queries side number (first_query_draw side lines)
