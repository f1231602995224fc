-- Lists of transfers: what the laws of sufficiency ask of a list of walks between stops,
-- and the plainest list that meets it.
--     HoldsDistances n list        each entry has the distance between its two stops
--     IsStopPair n entry           two different stops, and the distance between them
--     IsAllPairs n list            the list of all pairs of different stops that have a distance
use Rattle.std.specs.Prelude.{◌≢◌, ◌<◌, ◌↔◌, List, length, Contains}
use Rattle.move_model.specs.declared.network.Network.{Network}
use Rattle.move_model.specs.declared.journey.Shortcut.{Shortcut}
use Rattle.move_model.specs.Network.{IsStopDistance}

-- each entry has the distance between its two stops
abbrev pub HoldsDistances : Network → List Shortcut → Type 0
HoldsDistances n list = (entry : Shortcut) → Contains list entry → IsStopDistance n entry.from entry.to entry.seconds

-- two different stops of the network, and the distance between them
pub record IsStopPair (n : Network) (entry : Shortcut) : Type 0 where
  pub from_stands : entry.from.0 < length n.stops
  pub to_stands : entry.to.0 < length n.stops
  pub different : entry.from ≢ entry.to
  pub distance : IsStopDistance n entry.from entry.to entry.seconds

-- exactly the pairs of different stops that have a distance, each with it
abbrev pub IsAllPairs : Network → List Shortcut → Type 0
IsAllPairs n list = (entry : Shortcut) → Contains list entry ↔ IsStopPair n entry
