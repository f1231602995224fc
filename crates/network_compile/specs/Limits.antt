-- Networks that can be compiled.
--     IsWithin n                 n has at most 8,000,000 arcs and 200,000 stops, and its trips and calls have numbers of 32 bits
use Rattle.std.specs.Prelude.{◌<◌, ◌≤◌, ◌-◌, ◌^◌, All, length}
use Rattle.move_model.specs.declared.network.Network.{Network}

pub record IsWithin (n : Network) : Type 0 where
  pub arcs : length n.arcs ≤ 8000000
  pub stops : length n.stops ≤ 200000
  pub trips : length n.trips < 2 ^ 32 - 1
  pub calls : All (λ trip. length trip.calls < 2 ^ 32 - 1) n.trips
