-- The network of a file can be held by a file again.
use Rattle.std.proofs.Common.{arith}
use Rattle.network_file.specs.declared.compiled.Compiled.{Compiled}
use Rattle.network_codec.specs.declared.version.Version.TheVariants as version
use Rattle.network_codec.specs.Rules.{IsWritable}
use Rattle.file_compile.specs.Storable.{IsStorable}

pub holds_again : (c : Compiled) → IsWritable version.Two c → IsStorable c.network
holds_again c is = record {
  rules = (is.trips (omega arith)).keep;
  few_arcs = (is.streets (omega arith)).few;
  few_stops = (is.stops (omega arith)).few;
  stops_named = (is.stops (omega arith)).named;
  stops_differ = (is.stops (omega arith)).differ;
  few_trips = (is.trips (omega arith)).few;
  few_calls = (is.trips (omega arith)).few_calls;
  trips_named = (is.trips (omega arith)).named;
}
