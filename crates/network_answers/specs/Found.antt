-- What is found for the first numbers of rides.
--     IsFinding c s d rides t pair finding    the finding has the pair, and a journey with the rides by least sums
--     Adds c s d rides t pair old new         such a finding is put last, or there is none
--     IsFoundFor c sums s d t k found         the listed pairs of at most k rides are found, but those that are left out
--     ArePairs c sums d k pairs               these are the listed pairs of at most k rides, by rising number
--     IsTicked c sums d k before after        the count rose by one at most for each walk of these pairs
use Rattle.std.specs.Prelude.{◌≡◌, ◌↔◌, ◌⊎◌, ℕ, ◌+◌, ◌<◌, ◌≤◌, List, [], ◌∷◌, ◌++◌, length, All, Contains}
use Rattle.std.specs.List.{AllAdjacentBelow}
use Rattle.move_model.specs.declared.network.NodeNo.{NodeNo}
use Rattle.move_model.specs.declared.journey.Ride.{Ride}
use Rattle.move_model.specs.declared.journey.Pair.{Pair}
use Rattle.move_model.specs.declared.journey.Finding.{Finding}
use Rattle.journey_build.specs.Built.{IsBuilt, IsBroken}
use Rattle.network_file.specs.declared.compiled.Compiled.{Compiled}
use Rattle.network_file.specs.Answers.{Sums, IsListedPair, IsMade, IsLeftOut, pairs_of}
use Rattle.network_answers.specs.Point.{walks_of}

pub record IsFinding (c : Compiled) (s : NodeNo) (d : ℕ) (rides : List Ride) (t : NodeNo) (pair : Pair) (finding : Finding) : Type 0 where
  pub pair_is : finding.pair ≡ pair
  pub built : IsBuilt c.network c.hierarchy s d rides t finding.journey

pub data Adds (c : Compiled) (s : NodeNo) (d : ℕ) (rides : List Ride) (t : NodeNo) (pair : Pair) (old new : List Finding) : Type 0 where
  one : {finding : Finding} → IsFinding c s d rides t pair finding → new ≡ old ++ finding ∷ [] → Adds c s d rides t pair old new
  left_out : IsBroken c.network c.hierarchy s d rides t → new ≡ old → Adds c s d rides t pair old new

pub record IsFoundFor (c : Compiled) (sums : Sums) (s : NodeNo) (d : ℕ) (t : NodeNo) (limit : ℕ) (found : List Finding) : Type 0 where
  pub best : All (IsListedPair c sums d limit) (pairs_of found)
  pub made : All (IsMade c sums s d t) found
  pub whole : (pair : Pair) → IsListedPair c sums d limit pair → Contains (pairs_of found) pair ⊎ IsLeftOut c sums s d t pair
  pub rising : AllAdjacentBelow (λ p q. p.trips < q.trips) (pairs_of found) (length (pairs_of found))

pub record ArePairs (c : Compiled) (sums : Sums) (d limit : ℕ) (pairs : List Pair) : Type 0 where
  pub exact : (pair : Pair) → Contains pairs pair ↔ IsListedPair c sums d limit pair
  pub rising : AllAdjacentBelow (λ p q. p.trips < q.trips) pairs (length pairs)

pub record IsTicked (c : Compiled) (sums : Sums) (d limit before after : ℕ) : Type 0 where
  pub pairs : List Pair
  pub are : ArePairs c sums d limit pairs
  pub few : after ≤ before + walks_of pairs
