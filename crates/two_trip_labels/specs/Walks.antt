-- Walks on from a first ride, by the row of seconds from the place where it is left to each place.
--     ReadyFall old new                 no label has become greater
--     AreCuts foot z ready cuts         after the cut of a place walking from the start is no later, or the place has an earlier label
--     walked_label row a1 c p           the label of the walk to the place p
--     IsWalkLabel row a1 c p l          it is that, and no later than a day
--     IsWalkedTo row foot z a1 c ready p   walking from the start is no later, or the place has no greater label
use Rattle.std.specs.Prelude.{◌≡◌, ℕ, ◌+◌, ◌<◌, ◌≤◌, ◌⊎◌, List, length, slice_index}
use Rattle.move_model.specs.Shortcut.{IsLess}
use Rattle.piece_laws.specs.declared.labels.Ready.{Ready}
use Rattle.piece_laws.specs.Pieces.{ready_entries}
use Rattle.piece_laws.specs.Tables.{never}
use Rattle.two_trip_rides.specs.Second.{ready_at}

pub record ReadyFall (old new : List Ready) : Type 0 where
  pub as_many : length new ≡ length old
  pub each : (p : ℕ) → ¬ (IsLess (ready_entries (ready_at old p)) (ready_entries (ready_at new p)))

pub record AreCuts (foot : List ℕ) (z : ℕ) (ready : List Ready) (cuts : List ℕ) : Type 0 where
  pub as_many : length cuts ≡ length ready
  pub each : (p a : ℕ) → p < length ready → slice_index cuts p < a → (z + slice_index foot p ≤ a) ⊎ ((ready_at ready p).ready < a)

abbrev pub walked_label : List ℕ → ℕ → ℕ → ℕ → Ready
walked_label row a1 c p = record { ready = a1 + slice_index row p; a1 = a1; c = c }

pub record IsWalkLabel (row : List ℕ) (a1 c p : ℕ) (l : Ready) : Type 0 where
  pub within : p < length row
  pub label_is : l ≡ walked_label row a1 c p
  pub in_time : a1 + slice_index row p < never

abbrev pub IsWalkedTo : List ℕ → List ℕ → ℕ → ℕ → ℕ → List Ready → ℕ → Type 0
IsWalkedTo row foot z a1 c ready p =
    a1 + slice_index row p < never
    → (z + slice_index foot p ≤ a1 + slice_index row p) ⊎ ¬ (IsLess (ready_entries (walked_label row a1 c p)) (ready_entries (ready_at ready p)))
