-- What the answer to a range costs, and the memory that it needs.
--     sums_of walks              the sums that were measured
--     walks_within profile       how many walks the journeys of a range have: one on foot, where there is one, and one more than rides for each span
--     IsSearchedWithin c s t k first last before after    three searches were made, and at most one for each walk of the listed range
--     IsOpenedWithin c s t k first last before after      each round opened each route at most once for eight departures
--     IsRoomFor c k work         the memory is for c and ranges with at most so many rides
-- In these `first` and `last` are the seconds between which a passenger may leave, both included.
use Rattle.std.specs.Prelude.{◌≡◌, ℕ, ◌+◌, ◌*◌, ◌/◌, ◌≤◌, List, length, sum_by, Option, Some, None}
use Rattle.move_model.specs.declared.network.NodeNo.{NodeNo}
use Rattle.move_model.specs.declared.journey.Profile.{Profile}
use Rattle.move_model.specs.Range.{IsListedRange, AreDepartures}
use Rattle.network_file.specs.declared.compiled.Compiled.{Compiled}
use Rattle.network_file.specs.Answers.{Sums, AreLeastSums}
use Rattle.range_profile.specs.Profile.{FitsWork, most_rides}
use Rattle.range_answers.specs.declared.walks.Walks.{Walks}
use Rattle.range_answers.specs.declared.work.RangeWork.{RangeWork}

abbrev pub sums_of : Walks → Sums
sums_of walks = record { foot = walks.foot; first = walks.first; last = walks.last }

abbrev pub walks_on_foot : Option ℕ → ℕ
walks_on_foot None = 0
walks_on_foot (Some seconds) = 1

abbrev pub walks_within : Profile → ℕ
walks_within profile = walks_on_foot profile.foot + sum_by (λ span. span.trips + 1) profile.spans

-- a value has one listed range
pub record IsSearchedWithin (c : Compiled) (s t : NodeNo) (limit first last before after : ℕ) : Type 0 where
  pub sums : Sums
  pub least : AreLeastSums c s t sums
  pub few : (profile : Profile) → IsListedRange c.network sums.first sums.last c.shortcuts sums.foot limit first last profile
      → after ≤ before + 3 + walks_within profile

-- a row of first walks has one list of departures
pub record IsOpenedWithin (c : Compiled) (s t : NodeNo) (limit first last before after : ℕ) : Type 0 where
  pub sums : Sums
  pub least : AreLeastSums c s t sums
  pub few : (departures : List ℕ) → AreDepartures c.network sums.first first last departures
      → after ≤ before + limit * length c.table.routes * ((length departures + 7) / 8)

pub record IsRoomFor (c : Compiled) (limit : ℕ) (work : RangeWork) : Type 0 where
  pub first : length work.walks.first ≡ c.table.stops
  pub last : length work.walks.last ≡ c.table.stops
  pub search : work.search.nodes ≡ length c.hierarchy.ranks
  pub profile : FitsWork c.table work.profile
  pub within : limit ≤ most_rides work.profile
