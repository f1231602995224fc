-- The places that a query goes between.
--     stop_named id stops        the first stop with this id, or None
--     place_broken n text        the rule that a text names a vertex of the network n (Place, Vertex, UnknownStop)
--     node_in n text             the vertex that it names
--     place_in n text            the vertex, with the text itself as its word
use Rattle.std.specs.Prelude.{ℕ, not, Bool, List, [], length, take, drop, find, Option, Some, None, codes, is_some, if◌then◌else◌}
use Rattle.std.specs.Str.{bytes_eq}
use Rattle.move_model.specs.declared.network.Network.{Network}
use Rattle.move_model.specs.declared.network.NodeNo.{NodeNo}
use Rattle.move_model.specs.declared.network.Stop.{Stop}
use Rattle.move_model.specs.declared.query.Place.{Place}
use Rattle.move_model.specs.declared.refusal.Cause.{Cause}
use Rattle.move_model.specs.declared.refusal.Cause.TheVariants as cause
use Rattle.move_model.specs.Network.{node_of_stop}
use Rattle.tables.specs.Values.{number_of, number_in, is_within}

abbrev pub stop_named : List ℕ → List Stop → Option Stop
stop_named id stops = find (λ stop. bytes_eq id stop.name) stops

-- the text begins with these bytes
abbrev pub begins : List ℕ → List ℕ → Bool
begins front text = bytes_eq (take (length front) text) front

-- a whole number from 1 to the number of vertices
unfoldable pub node_broken : Network → List ℕ → Option Cause
node_broken n text =
    if not (is_some (number_of text)) then Some cause.Place
    else if is_within 1 n.nodes text then None
    else Some (cause.Vertex (number_in text))

unfoldable pub stop_broken : Network → List ℕ → Option Cause
stop_broken n id = if is_some (stop_named id n.stops) then None else Some cause.UnknownStop

-- `node:` and the number of a vertex, or `stop:` and the id of a stop
unfoldable pub place_broken : Network → List ℕ → Option Cause
place_broken n text =
    if begins (codes "node:") text then node_broken n (drop 5 text)
    else if begins (codes "stop:") text then stop_broken n (drop 5 text)
    else Some cause.Place

unfoldable pub node_in : Network → List ℕ → NodeNo
node_in n text =
    if begins (codes "node:") text then record { 0 = number_in (drop 5 text) }
    else node_of_stop (stop_named (drop 5 text) n.stops)

abbrev pub place_in : Network → List ℕ → Place
place_in n text = record { node = node_in n text; word = text }
