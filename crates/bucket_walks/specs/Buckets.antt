-- Buckets: entries between the vertices of a hierarchy and stops.
--     Parts                      the number of vertices and of stops, the entries to stops and those from stops
--     IsBuckets b                the rules of buckets by themselves
--     IsNeeded sum over v m      m is the least sum at v, no more than the longest, and no arc leads over to where it would be less
--     IsEntryTo h stops e        e is the entry of its vertex and stop, with the least seconds of arcs down from the one to the other
--     IsEntryFrom h stops e      the same with arcs up from the stop to the vertex
--     AreBucketsOf h stops b     the lists of b are these entries
--     IsFirstSum h b a p m       arcs up from a, and then an entry to the stop p, have m seconds in all
--     IsLastSum h b p t m        an entry from the stop p, and then arcs down to t, have m seconds in all
--     HoldsFirst h b a row       the row has the least such sum of each stop, or None where there is none
--     HoldsLast h b t row        the same to t
--     HoldsDistancesFrom graph a stops row   the row has the distance from a to each stop
--     HoldsDistancesTo graph stops t row     the row has the distance from each stop to t
use Rattle.std.specs.Prelude.{◌≡◌, ◌⊎◌, ◌↔◌, ℕ, ◌+◌, ◌<◌, ◌≤◌, List, Option, Some, None, length, slice_get, slice_index_or, All, Contains}
use Rattle.std.specs.List.{AllAdjacentBelow}
use Rattle.move_model.specs.declared.network.NodeNo.{NodeNo}
use Rattle.move_model.specs.declared.network.Stop.{Stop}
use Rattle.move_model.specs.Streets.{Streets, HasDistance}
use Rattle.walk_laws.specs.Sums.{IsLeast, HasLeast, longest}
use Rattle.walk_hierarchy.specs.Hierarchy.{Parts as HierarchyParts, IsNode, HasArc, IsUpSum, IsDownSum}
use Rattle.bucket_walks.specs.declared.bucket.Bucket.{Bucket}

pub record Parts : Type 0 where
  pub nodes : ℕ
  pub stops : ℕ
  pub to : List Bucket
  pub from : List Bucket

pub record IsBucket (nodes stops : ℕ) (entry : Bucket) : Type 0 where
  pub from_one : 1 ≤ entry.node.0
  pub to_nodes : entry.node.0 ≤ nodes
  pub stop : entry.stop.0 < stops
  pub short : entry.seconds ≤ longest

-- by vertex, and then by stop
abbrev pub IsBefore : Bucket → Bucket → Type 0
IsBefore entry other = (entry.node.0 < other.node.0) ⊎ ((entry.node.0 ≡ other.node.0) × (entry.stop.0 < other.stop.0))

pub record AreBuckets (nodes stops : ℕ) (entries : List Bucket) : Type 0 where
  pub each : All (IsBucket nodes stops) entries
  pub in_order : AllAdjacentBelow IsBefore entries (length entries)

pub record IsBuckets (b : Parts) : Type 0 where
  pub few_nodes : b.nodes ≤ 2000000
  pub few_stops : b.stops ≤ 200000
  pub to : AreBuckets b.nodes b.stops b.to
  pub from : AreBuckets b.nodes b.stops b.from

-- An entry with more seconds than the longest is part of no least walk, and neither is one at a vertex from which it is
-- shorter by way of another vertex.
pub record IsNeeded (sum : ℕ → ℕ → Type 0) (over : ℕ → ℕ → ℕ → Type 0) (v m : ℕ) : Type 0 where
  pub least : IsLeast (sum v) m
  pub short : m ≤ longest
  pub direct : (w l k : ℕ) → over v w l → sum w k → m ≤ l + k

-- arcs down lead to the stop, and no arc up leads to where it is shorter
abbrev pub IsNeededTo : HierarchyParts → ℕ → ℕ → ℕ → Type 0
IsNeededTo h p = IsNeeded (λ v m. IsDownSum h v p m) (HasArc h.up)

-- arcs up lead from the stop, and no arc down leads from where it is shorter
abbrev pub IsNeededFrom : HierarchyParts → ℕ → ℕ → ℕ → Type 0
IsNeededFrom h p = IsNeeded (λ v m. IsUpSum h p v m) (λ v w l. HasArc h.down w v l)

-- `IsNeededAt p v m` says that m seconds between v and a stop at p are needed
pub record IsEntry (IsNeededAt : ℕ → ℕ → ℕ → Type 0) (stops : List Stop) (entry : Bucket) : Type 0 where
  pub stop : Stop
  pub stands : slice_get stops entry.stop.0 ≡ Some stop
  pub needed : IsNeededAt stop.node.0 entry.node.0 entry.seconds

abbrev pub IsEntryTo : HierarchyParts → List Stop → Bucket → Type 0
IsEntryTo h = IsEntry (IsNeededTo h)

abbrev pub IsEntryFrom : HierarchyParts → List Stop → Bucket → Type 0
IsEntryFrom h = IsEntry (IsNeededFrom h)

pub record AreBucketsOf (h : HierarchyParts) (stops : List Stop) (b : Parts) : Type 0 where
  pub nodes : b.nodes ≡ length h.ranks
  pub one_each : b.stops ≡ length stops
  pub stand : All (λ stop. IsNode h stop.node) stops
  pub to : (entry : Bucket) → Contains b.to entry ↔ IsEntryTo h stops entry
  pub from : (entry : Bucket) → Contains b.from entry ↔ IsEntryFrom h stops entry

pub record IsFirstSum (h : HierarchyParts) (b : Parts) (a : NodeNo) (p seconds : ℕ) : Type 0 where
  pub top : ℕ
  pub l : ℕ
  pub k : ℕ
  pub up : IsUpSum h a.0 top l
  pub entry : Contains b.to (record { node = record { 0 = top }; stop = record { 0 = p }; seconds = k })
  pub total : l + k ≡ seconds

pub record IsLastSum (h : HierarchyParts) (b : Parts) (p : ℕ) (t : NodeNo) (seconds : ℕ) : Type 0 where
  pub top : ℕ
  pub l : ℕ
  pub k : ℕ
  pub entry : Contains b.from (record { node = record { 0 = top }; stop = record { 0 = p }; seconds = l })
  pub down : IsDownSum h top t.0 k
  pub total : l + k ≡ seconds

pub record HoldsFirst (h : HierarchyParts) (b : Parts) (a : NodeNo) (row : List (Option ℕ)) : Type 0 where
  pub one_each : length row ≡ b.stops
  pub least : (p : ℕ) → p < b.stops → HasLeast (IsFirstSum h b a p) (slice_index_or row p None)

pub record HoldsLast (h : HierarchyParts) (b : Parts) (t : NodeNo) (row : List (Option ℕ)) : Type 0 where
  pub one_each : length row ≡ b.stops
  pub least : (p : ℕ) → p < b.stops → HasLeast (λ m. IsLastSum h b p t m) (slice_index_or row p None)

pub record HoldsDistancesFrom (graph : Streets) (a : NodeNo) (stops : List Stop) (row : List (Option ℕ)) : Type 0 where
  pub one_each : length row ≡ length stops
  pub distances : (p : ℕ) (stop : Stop) → slice_get stops p ≡ Some stop → HasDistance graph a stop.node (slice_index_or row p None)

pub record HoldsDistancesTo (graph : Streets) (stops : List Stop) (t : NodeNo) (row : List (Option ℕ)) : Type 0 where
  pub one_each : length row ≡ length stops
  pub distances : (p : ℕ) (stop : Stop) → slice_get stops p ≡ Some stop → HasDistance graph stop.node t (slice_index_or row p None)
