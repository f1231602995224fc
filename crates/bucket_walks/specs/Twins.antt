-- Stops whose entries are equal but for the stop.
--     entry_of v q k             so many seconds between a vertex and a stop
--     IsTwin list q p            p is no later than q, and has the entries of q but for the stop
--     AreTwins list n twins      each of n stops has a twin, which may be itself
--     kept_of twins list         the entries of the stops that are their own twins
--     AreSame entries others     as many, with the vertices and seconds of the others one by one
--     AreByStop list n by        the entries of the list, by stop, and where those of each of n stops begin
--     AreCopied twins old new    each stop has the seconds of its twin, and one that is its own twin what it had
use Rattle.std.specs.Prelude.{◌≡◌, ◌↔◌, ◌==◌, ℕ, ◌+◌, ◌<◌, ◌≤◌, List, Option, None, Contains, filter, length, map, slice_index, slice_index_or}
use Rattle.bucket_walks.specs.declared.bucket.Bucket.{Bucket}
use Rattle.bucket_walks.specs.declared.twins.ByStop.{ByStop}
use Rattle.bucket_walks.specs.Starts.{AreStarts}

abbrev pub entry_of : ℕ → ℕ → ℕ → Bucket
entry_of v q k = record { node = record { 0 = v }; stop = record { 0 = q }; seconds = k }

pub record IsTwin (list : List Bucket) (q p : ℕ) : Type 0 where
  pub no_later : p ≤ q
  pub same : (v k : ℕ) → Contains list (entry_of v q k) ↔ Contains list (entry_of v p k)

pub record AreTwins (list : List Bucket) (stops : ℕ) (twins : List ℕ) : Type 0 where
  pub one_each : length twins ≡ stops
  pub each : (q : ℕ) → q < stops → IsTwin list q (slice_index twins q)

abbrev pub kept_of : List ℕ → List Bucket → List Bucket
kept_of twins list = filter (λ entry. slice_index twins entry.stop.0 == entry.stop.0) list

pub record IsSame (entry other : Bucket) : Type 0 where
  pub node : entry.node ≡ other.node
  pub seconds : entry.seconds ≡ other.seconds

pub record AreSame (entries others : List Bucket) : Type 0 where
  pub many : length entries ≡ length others
  pub each : (i : ℕ) (d : Bucket) → i < length entries → IsSame (slice_index_or entries i d) (slice_index_or others i d)

abbrev pub stops_of : List Bucket → List ℕ
stops_of entries = map (λ entry. entry.stop.0) entries

pub record AreByStop (list : List Bucket) (stops : ℕ) (by : ByStop) : Type 0 where
  pub entries : (entry : Bucket) → Contains by.entries.items entry ↔ Contains list entry
  pub many : length by.starts.items ≡ stops + 2
  pub first : AreStarts by.starts.items (stops_of by.entries.items)

pub record AreCopied (twins : List ℕ) (old new : List (Option ℕ)) : Type 0 where
  pub many : length new ≡ length old
  pub own : (q : ℕ) → q < length old → slice_index twins q ≡ q → slice_index_or new q None ≡ slice_index_or old q None
  pub twin : (q : ℕ) → q < length old → slice_index_or new q None ≡ slice_index_or new (slice_index twins q) None
