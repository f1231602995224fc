-- A search over all seconds of a window.
--     asked n ..                    the query over this network
--     SeedsWindow table first_row first last seeds ds    each second of the window, but for the last, has its stops; where it has any it is one of the departures
use Rattle.std.specs.Prelude.{ℕ, ◌+◌, ◌<◌, List, Contains, Option}
use Rattle.std.specs.declared.alloc.Global.{Global}
use Rattle.std.specs.declared.vec.Vec.{Vec}
use Rattle.move_model.specs.declared.network.Network.{Network}
use Rattle.move_model.specs.declared.network.StopNo.{StopNo}
use Rattle.move_model.specs.declared.journey.Shortcut.{Shortcut}
use Rattle.route_split.specs.Table.{Table}
use Rattle.range_spans.specs.Open.{RangeQuery}
use Rattle.range_search.specs.Search.{IsRowCaught}
use Rattle.range_profile.specs.Seeds.{HasSeed}

abbrev pub asked : Network → List (Option ℕ) → List (Option ℕ) → List Shortcut → Option ℕ → ℕ → RangeQuery
asked n first_row last_row list foot limit = record { network = n; first_row = first_row; last_row = last_row; list = list; foot = foot; limit = limit }

-- the stops where a row that goes on is just caught by who leaves then
pub record SeedsWindow (table : Table) (first_row : List (Option ℕ)) (first last : ℕ) (seeds : List (Vec StopNo Global)) (ds : List ℕ) : Type 0 where
  pub each : (k : ℕ) (stop : StopNo) → first + k < last → IsRowCaught table first_row (first + k) stop → HasSeed seeds k stop × Contains ds (first + k)
