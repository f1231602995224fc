-- What the memory of ranges is made for.
--     most_rides work               for queries with at most so many rides
--     FitsWork table work           it is made for the table
use Rattle.std.specs.Prelude.{◌≡◌, ℕ, ◌<◌, length, All, vec_len}
use Rattle.route_split.specs.Table.{Table}
use Rattle.range_lanes.specs.Levels.{Fits}
use Rattle.range_lanes.specs.Lent.{IsLentBy}
use Rattle.range_profile.specs.declared.answer.ProfileWork.{ProfileWork}

abbrev pub most_rides : ProfileWork → ℕ
most_rides work = vec_len work.levels

-- a level, a lead and an open span for each number of rides
pub record FitsWork (table : Table) (work : ProfileWork) : Type 0 where
  pub held : IsLentBy table work.held
  pub firsts : length work.entries.firsts ≡ table.stops
  pub ends : vec_len work.entries.ends ≡ table.stops
  pub few : most_rides work < 256
  pub fits : All (Fits table.stops) work.levels.items
  pub better : length work.better ≡ table.stops
  pub fresh : length work.fresh ≡ table.stops
  pub leads : vec_len work.leads ≡ most_rides work
  pub pending : vec_len work.pending ≡ most_rides work
