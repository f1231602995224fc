-- How many searches in the streets and openings of routes an answer needs. `Counts q before after` tells how far a query may
-- let a count rise.
--     CountsEach Counts queries before after    the count rose so for one query after another
--     CountsFirst Counts queries before after   the same of the first queries
--     IsSearchedOver n q before after    three searches, and at most one for each walk of the journeys of the exact answer
--     IsSearchedBy c q before after      the same of the listed answer of a compiled value c
--     IsSearchedFor c q before after     the same of the listed answer of c, and of the exact one if c is right
--     IsOpenedOver n routes q before after    for each round of a point query each of so many routes once; for each round of a
--                                        range once for eight departures, of those by the distances to the stops
--     IsOpenedBy c q before after        the same of the routes of c, and of the departures by its first walks
--     IsOpenedFor c q before after       the same by c, and by distances if c is right
use Rattle.std.specs.Prelude.{ℕ, ◌+◌, ◌*◌, ◌/◌, ◌≤◌, List, [], ◌∷◌, length, take, Option}
use Rattle.move_model.specs.declared.network.Network.{Network}
use Rattle.move_model.specs.declared.network.NodeNo.{NodeNo}
use Rattle.move_model.specs.declared.journey.Pair.{Pair}
use Rattle.move_model.specs.declared.journey.Profile.{Profile}
use Rattle.move_model.specs.declared.query.Query.{Query}
use Rattle.move_model.specs.declared.query.Query.TheVariants as query
use Rattle.move_model.specs.Journey.{IsParetoList}
use Rattle.move_model.specs.Listed.{HoldsFirst}
use Rattle.move_model.specs.Range.{IsRange, AreDepartures}
use Rattle.network_file.specs.declared.compiled.Compiled.{Compiled}
use Rattle.network_file.specs.Compiled.{IsRight}
use Rattle.network_answers.specs.Point.{IsSearched, walks_of}
use Rattle.range_answers.specs.Range.{IsSearchedWithin, IsOpenedWithin, walks_within}

pub data CountsEach (Counts : Query → ℕ → ℕ → Type 0) : List Query → ℕ → ℕ → Type 0 where
  none : {count : ℕ} → CountsEach Counts [] count count
  next : {q : Query} {queries : List Query} {before between after : ℕ} → Counts q before between
      → CountsEach Counts queries between after → CountsEach Counts (q ∷ queries) before after

-- those that were begun
abbrev pub CountsFirst : (Query → ℕ → ℕ → Type 0) → List Query → ℕ → ℕ → Type 0
CountsFirst Counts queries before after = (many : ℕ) × CountsEach Counts (take many queries) before after

-- a journey has one walk more than rides, and a walk on foot is one
abbrev pub IsSearchedOver : Network → Query → ℕ → ℕ → Type 0
IsSearchedOver n (query.At from to depart limit) before after =
    (pairs : List Pair) × IsParetoList n from.node depart to.node limit pairs × (after ≤ before + 3 + walks_of pairs)
IsSearchedOver n (query.Range from to first last limit) before after =
    (profile : Profile) → IsRange n from.node to.node limit first last profile → after ≤ before + 3 + walks_within profile

abbrev pub IsSearchedBy : Compiled → Query → ℕ → ℕ → Type 0
IsSearchedBy c (query.At from to depart limit) before after = IsSearched c from.node depart to.node limit before after
IsSearchedBy c (query.Range from to first last limit) before after = IsSearchedWithin c from.node to.node limit first last before after

pub record IsSearchedFor (c : Compiled) (q : Query) (before after : ℕ) : Type 0 where
  pub listed : IsSearchedBy c q before after
  pub exact : IsRight c → IsSearchedOver c.network q before after

-- a network has one row of distances from a vertex to its stops, and a row has one list of departures
pub record IsOpenedAtDepartures (n : Network) (routes : ℕ) (s : NodeNo) (limit first last before after : ℕ) : Type 0 where
  pub row : List (Option ℕ)
  pub holds : HoldsFirst n s row
  pub few : (departures : List ℕ) → AreDepartures n row first last departures
      → after ≤ before + limit * routes * ((length departures + 7) / 8)

abbrev pub IsOpenedOver : Network → ℕ → Query → ℕ → ℕ → Type 0
IsOpenedOver n routes (query.At from to depart limit) before after = after ≤ before + limit * routes
IsOpenedOver n routes (query.Range from to first last limit) before after =
    IsOpenedAtDepartures n routes from.node limit first last before after

abbrev pub IsOpenedBy : Compiled → Query → ℕ → ℕ → Type 0
IsOpenedBy c (query.At from to depart limit) before after = after ≤ before + limit * length c.table.routes
IsOpenedBy c (query.Range from to first last limit) before after = IsOpenedWithin c from.node to.node limit first last before after

pub record IsOpenedFor (c : Compiled) (q : Query) (before after : ℕ) : Type 0 where
  pub listed : IsOpenedBy c q before after
  pub exact : IsRight c → IsOpenedOver c.network (length c.table.routes) q before after
