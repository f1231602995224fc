-- Networks.
--     streets n                  the street graph of n
--     IsNetwork n                n keeps the rules of a network
--     IsNumbered n               the trips, and the calls of each, can be numbered by 32 bits
--     node_of n x                the vertex of the stop x
--     IsStopDistance n x y m     the distance between the vertices of two stops
use Rattle.std.specs.Prelude.{◌≡◌, ℕ, ◌<◌, ◌≤◌, ◌⊎◌, List, [], ◌∷◌, length, slice_get, All, Option, Some, None}
use Rattle.std.specs.List.{AllAdjacentBelow}
use Rattle.move_model.specs.declared.network.Network.{Network}
use Rattle.move_model.specs.declared.network.NodeNo.{NodeNo}
use Rattle.move_model.specs.declared.network.StopNo.{StopNo}
use Rattle.move_model.specs.declared.network.Stop.{Stop}
use Rattle.move_model.specs.declared.network.Trip.{Trip}
use Rattle.move_model.specs.declared.network.Call.{Call}
use Rattle.move_model.specs.Streets.{Streets, IsVertex, IsStreets, IsDistance}

abbrev pub streets : Network → Streets
streets n = record { nodes = n.nodes; arcs = n.arcs }

-- two calls or more, each at a stop, and no second before an earlier one
pub record IsTrip (n : Network) (trip : Trip) : Type 0 where
  pub two_calls : 2 ≤ length trip.calls
  pub at_stops : All (λ call. call.stop.0 < length n.stops) trip.calls
  pub stays : All (λ call. call.arr ≤ call.dep) trip.calls
  pub goes_on : AllAdjacentBelow (λ call next. call.dep ≤ next.arr) trip.calls (length trip.calls)

-- the seconds of the one list of calls are at or before those of the other, in lexicographic order
abbrev pub IsAtOrBefore : List Call → List Call → Type 0
IsAtOrBefore [] _ = Unit {0}
IsAtOrBefore (c ∷ cs) [] = ⊥
IsAtOrBefore (c ∷ cs) (d ∷ ds) =
    (c.arr < d.arr) ⊎ ((c.arr ≡ d.arr) × ((c.dep < d.dep) ⊎ ((c.dep ≡ d.dep) × IsAtOrBefore cs ds)))

-- the rules of a network
pub record IsNetwork (n : Network) : Type 0 where
  pub streets_join : IsStreets (streets n)
  pub stops_stand : All (λ stop. IsVertex (streets n) stop.node) n.stops
  pub trips_go : All (IsTrip n) n.trips
  pub trips_in_order : AllAdjacentBelow (λ trip next. IsAtOrBefore trip.calls next.calls) n.trips (length n.trips)

pub record IsNumbered (n : Network) : Type 0 where
  pub trips : length n.trips ≤ 4294967296
  pub calls : All (λ trip. length trip.calls ≤ 4294967296) n.trips

-- 0 where there is no such stop
abbrev pub node_of_stop : Option Stop → NodeNo
node_of_stop None = record { 0 = 0 }
node_of_stop (Some stop) = stop.node

abbrev pub node_of : Network → StopNo → NodeNo
node_of n x = node_of_stop (slice_get n.stops x.0)

abbrev pub IsStopDistance : Network → StopNo → StopNo → ℕ → Type 0
IsStopDistance n x y m = IsDistance (streets n) (node_of n x) (node_of n y) m
