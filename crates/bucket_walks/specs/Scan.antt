-- Least sums of a search and of bucket entries.
--     Lowers old new gives       each stop's seconds are the least of what it had and of what it is given
--     HasSmall row               no stop has too many seconds to be written
--     lesser_of held s           the lesser of optional seconds and s
--     IsAt q s                   the stop q is given s seconds
--     IsBy entries s             each entry's stop is given its seconds and s
--     IsOver settled list        each entry at a settled vertex gives its stop the seconds of both
use Rattle.std.specs.Prelude.{◌≡◌, ◌⊎◌, ℕ, ◌+◌, ◌<◌, ◌≤◌, List, Option, Some, None, length, slice_index_or, Contains, min}
use Rattle.walk_laws.specs.Sums.{HasLeast}
use Rattle.walk_hierarchy.specs.declared.settled.Settled.{Settled}
use Rattle.bucket_walks.specs.declared.bucket.Bucket.{Bucket}

pub record IsHeld (row : List (Option ℕ)) (p m : ℕ) : Type 0 where
  pub is : slice_index_or row p None ≡ Some m

pub record Lowers (old new : List (Option ℕ)) (gives : ℕ → ℕ → Type 0) : Type 0 where
  pub many : length new ≡ length old
  pub least : (p : ℕ) → p < length old → HasLeast (λ m. IsHeld old p m ⊎ gives p m) (slice_index_or new p None)

abbrev pub HasSmall : List (Option ℕ) → Type 0
HasSmall row = (p m : ℕ) → slice_index_or row p None ≡ Some m → m ≤ 9000000000000000000

abbrev pub lesser_of : Option ℕ → ℕ → ℕ
lesser_of None s = s
lesser_of (Some held) s = min held s

pub record IsAt (stop seconds p m : ℕ) : Type 0 where
  pub stop_is : stop ≡ p
  pub seconds_are : seconds ≡ m

pub record IsBy (entries : List Bucket) (seconds p m : ℕ) : Type 0 where
  pub entry : Bucket
  pub stands : Contains entries entry
  pub stop_is : entry.stop.0 ≡ p
  pub total : seconds + entry.seconds ≡ m

pub record IsOver (settled : List Settled) (list : List Bucket) (p m : ℕ) : Type 0 where
  pub there : Settled
  pub entry : Bucket
  pub comes : Contains settled there
  pub stands : Contains list entry
  pub meets : entry.node ≡ there.node
  pub stop_is : entry.stop.0 ≡ p
  pub total : there.seconds + entry.seconds ≡ m
