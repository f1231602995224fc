-- What the calls of this crate answer.
--     HoldsDistances n s row         the row has the distance from s to each vertex, by its number
--     HoldsEarliest n s d limit rows for each number of rides up to the limit, the row of the earliest arrivals
--     IsLed n s d t k a journey      the journey leads from s at second d to t at second a so
use Rattle.std.specs.Prelude.{◌≡◌, ℕ, ◌+◌, ◌≤◌, List, [], length, slice_index_or, All, Option, None}
use Rattle.move_model.specs.declared.network.Network.{Network}
use Rattle.move_model.specs.declared.network.NodeNo.{NodeNo}
use Rattle.move_model.specs.declared.journey.Journey.{Journey}
use Rattle.move_model.specs.Streets.{HasDistance}
use Rattle.move_model.specs.Network.{streets}
use Rattle.move_model.specs.Journey.{IsJourney, HasEarliest}
use Rattle.move_model.specs.Found.{IsLeastWalk}

-- a place for each vertex and for 0, which is none; None where there is no walk
pub record HoldsDistances (n : Network) (s : NodeNo) (row : List (Option ℕ)) : Type 0 where
  pub one_each : length row ≡ n.nodes + 1
  pub distances : (v : NodeNo) → HasDistance (streets n) s v (slice_index_or row v.0 None)

-- None where there is no journey with at most so many rides
pub record HoldsEarliest (n : Network) (s : NodeNo) (d limit : ℕ) (rows : List (List (Option ℕ))) : Type 0 where
  pub one_each : length rows ≡ limit + 1
  pub arrivals : (k : ℕ) (v : NodeNo) → k ≤ limit → HasEarliest n s d v k (slice_index_or (slice_index_or rows k []) v.0 None)

-- the journey leads from s at second d to t, where it arrives at this second, with at most k rides and by least walks
pub record IsLed (n : Network) (s : NodeNo) (d : ℕ) (t : NodeNo) (k arrive : ℕ) (journey : Journey) : Type 0 where
  pub departs : journey.depart ≡ d
  pub arrives : IsJourney n s journey t arrive
  pub few : length journey.rides ≤ k
  pub least_walks : All (IsLeastWalk (streets n)) journey.walks
