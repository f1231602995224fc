-- A network that is read section by section.
--     with_stops n stops         the streets of n, with these stops
--     with_trips n trips         the streets and stops of n, with these trips
--     buffer_at version bytes    the buffer, where the version tells it, and the bytes behind it
--     streets_of x               a network of a buffer, a number of vertices and arcs alone
--     streets_at version bytes   the network of the streets in front, and the bytes behind them
use Rattle.std.specs.Prelude.{ℕ, List, [], Option, Some}
use Rattle.move_model.specs.declared.network.Network.{Network}
use Rattle.move_model.specs.declared.network.Arc.{Arc}
use Rattle.move_model.specs.declared.network.Stop.{Stop}
use Rattle.move_model.specs.declared.network.Trip.{Trip}
use Rattle.network_bytes.specs.Front.{word_at, both, made, counted}
use Rattle.network_bytes.specs.Forms.{arc_at}
use Rattle.network_codec.specs.declared.version.Version.{Version}
use Rattle.network_codec.specs.declared.version.Version.TheVariants as version

abbrev pub with_stops : Network → List Stop → Network
with_stops n stops = record { nodes = n.nodes; arcs = n.arcs; stops = stops; trips = []; buffer = n.buffer }

abbrev pub with_trips : Network → List Trip → Network
with_trips n trips = record { nodes = n.nodes; arcs = n.arcs; stops = n.stops; trips = trips; buffer = n.buffer }

abbrev pub buffer_at : Version → List ℕ → Option (ℕ × List ℕ)
buffer_at version.One bytes = Some (0, bytes)
buffer_at version.Two bytes = word_at bytes

abbrev pub streets_of : ℕ × (ℕ × List Arc) → Network
streets_of x = record { nodes = x.1.0; arcs = x.1.1; stops = []; trips = []; buffer = x.0 }

unfoldable pub streets_at : Version → List ℕ → Option (Network × List ℕ)
streets_at version = made streets_of (both (buffer_at version) (both word_at (counted word_at arc_at)))
