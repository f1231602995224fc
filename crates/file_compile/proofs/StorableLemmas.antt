-- A network that a file can hold keeps the rules of the sections that tell it.
use Rattle.std.proofs.Common.{arith}
use Rattle.move_model.specs.declared.network.Network.{Network}
use Rattle.move_model.specs.Check.{KeepsRules}
use Rattle.network_codec.specs.declared.version.Version.TheVariants as version
use Rattle.network_codec.specs.Rules.{streets_alone, stops_alone, AreStreets, AreStops, AreTrips}
use Rattle.file_compile.specs.Storable.{IsStorable}

streets_keep : (n : Network) → KeepsRules n → KeepsRules (streets_alone n)
streets_keep n is = record {
  network = record {
    streets_join = is.network.streets_join;
    stops_stand = λ k d lt. absurd (omega arith);
    trips_go = λ k d lt. absurd (omega arith);
    trips_in_order = λ k d lt. absurd (omega arith);
  };
  has_nodes = is.has_nodes;
  arcs_short = is.arcs_short;
  within_day = λ k d lt. absurd (omega arith);
  buffer = is.buffer;
}

stops_keep : (n : Network) → KeepsRules n → KeepsRules (stops_alone n)
stops_keep n is = record {
  network = record {
    streets_join = is.network.streets_join;
    stops_stand = is.network.stops_stand;
    trips_go = λ k d lt. absurd (omega arith);
    trips_in_order = λ k d lt. absurd (omega arith);
  };
  has_nodes = is.has_nodes;
  arcs_short = is.arcs_short;
  within_day = λ k d lt. absurd (omega arith);
  buffer = is.buffer;
}

pub streets_stored : (n : Network) → IsStorable n → AreStreets version.Two n
streets_stored n is = record { buffer = is.rules.buffer; few = is.few_arcs; keep = streets_keep n is.rules }

pub stops_stored : (n : Network) → IsStorable n → AreStops n
stops_stored n is = record { few = is.few_stops; named = is.stops_named; differ = is.stops_differ; keep = stops_keep n is.rules }

pub trips_stored : (n : Network) → IsStorable n → AreTrips n
trips_stored n is = record { few = is.few_trips; few_calls = is.few_calls; named = is.trips_named; keep = is.rules }
