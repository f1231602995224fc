-- Which entries of the searches from the stops are kept.
--     sums side h p v m          m seconds of arcs down lead from v to p; or of arcs up from p to v
--     arcs_of side h             the arcs up; or the arcs down
--     bypass_of side arc         the arc as its lesser end sees it
--     leads_over side h v w l    an arc of l seconds leads up from v to w; or down from w to v
--     AreBypasses side h all     all such arcs, by their lesser end
--     AreMarked settled marks    the marks are the seconds of the settled vertices
--     IsShortBy marks s arc      by way of the arc's other end it is less than s seconds
--     IsDirect arcs marks there  no arc makes it less than the seconds of the settled vertex
--     IsKept .. entry            the entry is that of a settled vertex, and by no arc it is less
--     AreApart entries           no two entries have the same vertex and the same stop
--     IsEntryAt side h stops e   e is an entry to a stop; or from a stop
--     key_of entry               rises by vertex, and then by stop
use Rattle.std.specs.Prelude.{◌≡◌, ◌↔◌, ℕ, ◌+◌, ◌*◌, ◌<◌, ◌≤◌, List, Option, Some, None, AllPairs, Contains, length, map, slice_index_or}
use Rattle.move_model.specs.declared.network.Stop.{Stop}
use Rattle.move_model.specs.declared.network.StopNo.{StopNo}
use Rattle.walk_laws.specs.Sums.{longest}
use Rattle.walk_hierarchy.specs.declared.arcs.UpDown.{UpDown}
use Rattle.walk_hierarchy.specs.declared.settled.Settled.{Settled}
use Rattle.walk_hierarchy.specs.Hierarchy.{Parts, HasArc, IsUpSum, IsDownSum}
use Rattle.bucket_walks.specs.declared.bucket.Bucket.{Bucket}
use Rattle.bucket_walks.specs.declared.bypasses.Side.{Side}
use Rattle.bucket_walks.specs.declared.bypasses.Side.TheVariants.{To, From}
use Rattle.bucket_walks.specs.declared.bypasses.Bypass.{Bypass}
use Rattle.bucket_walks.specs.declared.bypasses.Bypasses.{Bypasses}
use Rattle.bucket_walks.specs.Starts.{AreStarts}
use Rattle.bucket_walks.specs.Buckets.{IsNeeded, IsEntry}

abbrev pub sums : Side → Parts → ℕ → ℕ → ℕ → Type 0
sums To h p v m = IsDownSum h v p m
sums From h p v m = IsUpSum h p v m

abbrev pub arcs_of : Side → Parts → List UpDown
arcs_of To h = h.up
arcs_of From h = h.down

abbrev pub bypass_of : Side → UpDown → Bypass
bypass_of To arc = record { seconds = arc.seconds; node = arc.from; over = arc.to }
bypass_of From arc = record { seconds = arc.seconds; node = arc.to; over = arc.from }

abbrev pub leads_over : Side → Parts → ℕ → ℕ → ℕ → Type 0
leads_over To h v w l = HasArc h.up v w l
leads_over From h v w l = HasArc h.down w v l

abbrev pub heads_of : List Bypass → List ℕ
heads_of arcs = map (λ arc. arc.node.0) arcs

pub record AreBypasses (side : Side) (h : Parts) (all : Bypasses) : Type 0 where
  pub arcs : (v w l : ℕ) → Contains all.arcs.items (record { seconds = l; node = record { 0 = v }; over = record { 0 = w } }) ↔ leads_over side h v w l
  pub starts : length all.starts.items ≡ length h.ranks + 2
  pub first : AreStarts all.starts.items (heads_of all.arcs.items)

-- no vertex has seconds
abbrev pub IsUnmarked : List (Option ℕ) → Type 0
IsUnmarked marks = (v : ℕ) → slice_index_or marks v None ≡ None

pub record AreMarked (settled : List Settled) (marks : List (Option ℕ)) : Type 0 where
  pub all : (v m : ℕ) → Contains settled (record { node = record { 0 = v }; seconds = m }) → slice_index_or marks v None ≡ Some m
  pub only : (v m : ℕ) → slice_index_or marks v None ≡ Some m → Contains settled (record { node = record { 0 = v }; seconds = m })

-- no vertex has two entries with different seconds
pub record HasOneEach (settled : List Settled) : Type 0 where
  pub one : (v m n : ℕ) → Contains settled (record { node = record { 0 = v }; seconds = m }) → Contains settled (record { node = record { 0 = v }; seconds = n }) → m ≡ n

pub record IsShortBy (marks : List (Option ℕ)) (seconds : ℕ) (arc : Bypass) : Type 0 where
  pub k : ℕ
  pub there : slice_index_or marks arc.over.0 None ≡ Some k
  pub less : arc.seconds + k < seconds

abbrev pub HasFew : List (Option ℕ) → Type 0
HasFew marks = (v m : ℕ) → slice_index_or marks v None ≡ Some m → m ≤ 4000000000000000000

abbrev pub HasNoShort : List Bypass → List (Option ℕ) → ℕ → Type 0
HasNoShort arcs marks seconds = (arc : Bypass) → Contains arcs arc → IsShortBy marks seconds arc → ⊥

-- no more than the longest, and by no arc less
pub record IsDirect (arcs : List Bypass) (marks : List (Option ℕ)) (there : Settled) : Type 0 where
  pub short : there.seconds ≤ longest
  pub direct : (arc : Bypass) → Contains arcs arc → arc.node ≡ there.node → IsShortBy marks there.seconds arc → ⊥

pub record IsKept (stop : StopNo) (settled : List Settled) (arcs : List Bypass) (marks : List (Option ℕ)) (entry : Bucket) : Type 0 where
  pub stop_is : entry.stop ≡ stop
  pub comes : Contains settled (record { node = entry.node; seconds = entry.seconds })
  pub direct : IsDirect arcs marks (record { node = entry.node; seconds = entry.seconds })

abbrev pub IsApart : Bucket → Bucket → Type 0
IsApart entry other = entry.node ≡ other.node → entry.stop ≡ other.stop → ⊥

abbrev pub AreApart : List Bucket → Type 0
AreApart entries = AllPairs IsApart entries

abbrev pub IsNeededAt : Side → Parts → ℕ → ℕ → ℕ → Type 0
IsNeededAt side h p = IsNeeded (sums side h p) (leads_over side h)

-- the entry of a stop that stands at p
pub record IsEntryOf (side : Side) (h : Parts) (stop : StopNo) (p : ℕ) (entry : Bucket) : Type 0 where
  pub stop_is : entry.stop ≡ stop
  pub needed : IsNeededAt side h p entry.node.0 entry.seconds

abbrev pub IsEntryAt : Side → Parts → List Stop → Bucket → Type 0
IsEntryAt side h = IsEntry (IsNeededAt side h)

abbrev pub AreEntries : Side → Parts → List Stop → List Bucket → Type 0
AreEntries side h stops list = (entry : Bucket) → Contains list entry ↔ IsEntryAt side h stops entry

-- rises by vertex, and then by stop
abbrev pub key_of : Bucket → ℕ
key_of entry = entry.node.0 * 4294967296 + entry.stop.0
