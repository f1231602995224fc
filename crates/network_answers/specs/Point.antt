-- What a point query finds in a compiled value, right or not.
--     AreListedPairs c s d t k pairs     the pairs are the listed ones of c, by rising number of rides
--     walks_of pairs             how many walks the journeys of these pairs have
--     IsSearched c s d t k before after    three searches were made, and at most one for each walk of the listed pairs
--     Room                       for what the memory of an answer was taken: vertices, stops, routes, and a limit on rides
--     IsRoomFor c k room         the room is for c and this limit
use Rattle.std.specs.Prelude.{◌≡◌, ◌↔◌, ℕ, ◌+◌, ◌<◌, ◌≤◌, List, length, sum_by, Contains}
use Rattle.std.specs.List.{AllAdjacentBelow}
use Rattle.move_model.specs.declared.network.NodeNo.{NodeNo}
use Rattle.move_model.specs.declared.journey.Pair.{Pair}
use Rattle.network_file.specs.declared.compiled.Compiled.{Compiled}
use Rattle.network_file.specs.Answers.{Sums, AreLeastSums, IsListedPair}

-- those with a journey of least sums, and those that are left out
pub record AreListedPairs (c : Compiled) (s : NodeNo) (d : ℕ) (t : NodeNo) (limit : ℕ) (pairs : List Pair) : Type 0 where
  pub sums : Sums
  pub least : AreLeastSums c s t sums
  pub exact : (pair : Pair) → Contains pairs pair ↔ IsListedPair c sums d limit pair
  pub rising : AllAdjacentBelow (λ p q. p.trips < q.trips) pairs (length pairs)

-- one more than rides
abbrev pub walks_of : List Pair → ℕ
walks_of pairs = sum_by (λ pair. pair.trips + 1) pairs

-- three searches for the rows and the seconds on foot, and one for each walk of a listed pair
pub record IsSearched (c : Compiled) (s : NodeNo) (d : ℕ) (t : NodeNo) (limit before after : ℕ) : Type 0 where
  pub pairs : List Pair
  pub are : AreListedPairs c s d t limit pairs
  pub few : after ≤ before + 3 + walks_of pairs

pub record Room : Type 0 where
  pub nodes : ℕ
  pub stops : ℕ
  pub routes : ℕ
  pub limit : ℕ

pub record IsRoomFor (c : Compiled) (limit : ℕ) (room : Room) : Type 0 where
  pub nodes : room.nodes ≡ length c.hierarchy.ranks
  pub stops : room.stops ≡ c.table.stops
  pub routes : room.routes ≡ length c.table.routes
  pub within : limit ≤ room.limit
