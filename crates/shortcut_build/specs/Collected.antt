-- What is needed from the starts that were searched from so far.
--     GoesOn starts k               the k-th start is at the place of the one before it
--     IsAfter place bound starts k   the search stands at the start before the k-th one, where there is one
--     IsReady place bound starts k   the search stands at the place of the k-th start, and may step to its second
--     HasNeeded n rows starts k x y one of the first k starts needs a walk from x to y
--     seconds_by rows x y           the seconds of the rows between the places of two stops
use Rattle.std.specs.Prelude.{◌≡◌, ℕ, ◌+◌, ◌<◌, List, slice_get, Some}
use Rattle.move_model.specs.declared.network.Network.{Network}
use Rattle.move_model.specs.declared.network.StopNo.{StopNo}
use Rattle.stop_rows.specs.Rows.{Rows, entry, place_at}
use Rattle.start_seconds.specs.declared.start.Start.{Start}
use Rattle.witness_prune.specs.Search.{IsNeededFrom}

pub record GoesOn (starts : List Start) (k : ℕ) : Type 0 where
  pub i : ℕ
  pub before : Start
  pub start : Start
  pub next : i + 1 ≡ k
  pub is_before : slice_get starts i ≡ Some before
  pub is_start : slice_get starts k ≡ Some start
  pub one_place : before.place ≡ start.place

abbrev pub IsAfter : ℕ → ℕ → List Start → ℕ → Type 0
IsAfter place bound starts k = (i : ℕ) (start : Start) → i + 1 ≡ k → slice_get starts i ≡ Some start → (place ≡ start.place) × (bound ≡ start.second)

abbrev pub IsReady : ℕ → ℕ → List Start → ℕ → Type 0
IsReady place bound starts k = (start : Start) → slice_get starts k ≡ Some start → (place ≡ start.place) × (start.second < bound)

pub record HasNeeded (n : Network) (rows : Rows) (starts : List Start) (k : ℕ) (x y : StopNo) : Type 0 where
  pub i : ℕ
  pub start : Start
  pub is_start : slice_get starts i ≡ Some start
  pub before : i < k
  pub needed : IsNeededFrom n rows start.place start.second x y

abbrev pub seconds_by : Rows → StopNo → StopNo → ℕ
seconds_by rows x y = entry rows (place_at rows x) (place_at rows y)
