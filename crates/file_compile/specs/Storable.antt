-- Networks that a network file can hold.
--     IsStorable n               n keeps the rules of a network, within the limits of a file, and its names are ids
use Rattle.std.specs.Prelude.{◌≤◌, length, All}
use Rattle.move_model.specs.declared.network.Network.{Network}
use Rattle.move_model.specs.Check.{KeepsRules}
use Rattle.network_rules.specs.Rules.{IsId, Differ, HaveFewCalls}

-- the rules of the first three sections of version 2
pub record IsStorable (n : Network) : Type 0 where
  pub rules : KeepsRules n
  pub few_arcs : length n.arcs ≤ 8000000
  pub few_stops : length n.stops ≤ 200000
  pub stops_named : All (λ stop. IsId stop.name) n.stops
  pub stops_differ : Differ n.stops
  pub few_trips : length n.trips ≤ 2000000
  pub few_calls : HaveFewCalls n.trips
  pub trips_named : All (λ trip. IsId trip.name) n.trips
