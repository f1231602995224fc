-- Rows of ways, one for each vertex by its number, and what walking on from a row makes of it.
--     IsWayTo row v way          the row's way to the vertex v
--     second_of entry            the second of an optional way
--     HasWayBy row v m           the row has a way to v that arrives at second m or before
--     NoLater old new            no way of the new row arrives later than the old one's
--     IsWhole row                each way comes to no vertex twice, and to none before the row's own way there
--     IsWalked arcs row          no arc leads from a way to an earlier arrival
--     GoesOn arcs row v way      the way to v is a way of the row, or goes on from one along arcs
--     WalksOn arcs old new       each way of the new row goes on so from the old row
--     weight row                 a number that falls where an arrival gets earlier
use Rattle.std.specs.Prelude.{◌≡◌, ◌≢◌, ℕ, ◌+◌, ◌*◌, ◌<◌, ◌≤◌, List, [], ◌∷◌, ◌++◌, length, slice_get, sum_by, AllPairs, Contains, Option, Some, None}
use Rattle.move_model.specs.declared.network.NodeNo.{NodeNo}
use Rattle.move_model.specs.declared.network.Arc.{Arc}
use Rattle.plain_search.specs.declared.way.Way.{Way}

abbrev pub Ways : Type 0
Ways = List (Option Way)

abbrev pub IsWayTo : Ways → NodeNo → Way → Type 0
IsWayTo row v way = slice_get row v.0 ≡ Some (Some way)

abbrev pub second_of : Option Way → Option ℕ
second_of None = None
second_of (Some way) = Some way.second

pub record HasWayBy (row : Ways) (v : NodeNo) (m : ℕ) : Type 0 where
  pub way : Way
  pub stands : IsWayTo row v way
  pub no_later : way.second ≤ m

abbrev pub NoLater : Ways → Ways → Type 0
NoLater old new = (v : NodeNo) (m : ℕ) → HasWayBy old v m → HasWayBy new v m

-- the seconds, a vertex's number and an arc's seconds are below 2 ^ 32 each
pub record IsWholeWay (row : Ways) (way : Way) : Type 0 where
  pub bounded : way.second ≤ 4294967295 * length way.walk
  pub no_vertex_twice : AllPairs (λ a b. a ≢ b) way.walk
  pub passes : (v : NodeNo) → Contains way.walk v → HasWayBy row v way.second

pub record IsWhole (row : Ways) : Type 0 where
  pub few : length row ≤ 4294967296
  pub ways : (v : NodeNo) (way : Way) → IsWayTo row v way → IsWholeWay row way

abbrev pub IsWalked : List Arc → Ways → Type 0
IsWalked arcs row =
    (arc : Arc) (m : ℕ) → Contains arcs arc → arc.to.0 < length row → HasWayBy row arc.from m → HasWayBy row arc.to (m + arc.seconds)

pub data GoesOn (arcs : List Arc) (row : Ways) : NodeNo → Way → Type 0 where
  stays : {v : NodeNo} {way : Way} → IsWayTo row v way → GoesOn arcs row v way
  goes : {p q : NodeNo} {way : Way} {m : ℕ} → GoesOn arcs row p way → Contains arcs (record { from = p; to = q; seconds = m })
      → GoesOn arcs row q (record { second = way.second + m; walk = way.walk ++ q ∷ []; ride = way.ride })

pub record WalksOn (arcs : List Arc) (old new : Ways) : Type 0 where
  pub one_each : length new ≡ length old
  pub no_later : NoLater old new
  pub go_on : (v : NodeNo) (way : Way) → IsWayTo new v way → GoesOn arcs old v way

-- more than any second where there is no way
abbrev pub weight_of : Option Way → ℕ
weight_of None = 18446744073709551616
weight_of (Some way) = way.second

abbrev pub weight : Ways → ℕ
weight row = sum_by weight_of row
