-- Walks on from all stops where first rides are left.
--     row_of rows x                        the seconds from the place of the stop x
--     last_walked walked x                 the second from which walks were last made from the stop x, or none
--     IsWalkOf rows first p l              l is the label of a walk to the place p from where a first ride is left
--     IsWalkedFrom rows foot z a x ready p the walk from the stop x at second a is in the label of the place p
--     WalkGoes rows foot z first ..        what walking leaves, wherever walks are made
use Rattle.std.specs.Prelude.{◌≡◌, ℕ, ◌+◌, ◌<◌, ◌⊎◌, List, [], length, slice_index, slice_index_or}
use Rattle.move_model.specs.declared.network.StopNo.{StopNo}
use Rattle.stop_rows.specs.Rows.{Rows, entry, place_at}
use Rattle.piece_laws.specs.declared.labels.Ready.{Ready}
use Rattle.piece_laws.specs.Tables.{never}
use Rattle.two_trip_rides.specs.Second.{ready_at}
use Rattle.two_trip_labels.specs.Walks.{ReadyFall, IsWalkedTo}

abbrev pub row_of : Rows → StopNo → List ℕ
row_of rows x = slice_index_or rows.seconds (place_at rows x) []

abbrev pub last_walked : List ℕ → ℕ → ℕ
last_walked walked x = slice_index_or walked x never

pub record IsWalkOf (rows : Rows) (first : List ℕ) (p : ℕ) (l : Ready) : Type 0 where
  pub stop : StopNo
  pub exists : stop.0 < length first
  pub a1_is : l.a1 ≡ slice_index first stop.0
  pub ready_is : l.ready ≡ l.a1 + entry rows (place_at rows stop) p
  pub c_is : l.c ≡ 1 + stop.0
  pub in_time : l.ready < never

abbrev pub IsWalkedFrom : Rows → List ℕ → ℕ → ℕ → StopNo → List Ready → ℕ → Type 0
IsWalkedFrom rows foot z a x ready p = IsWalkedTo (row_of rows x) foot z a (1 + x.0) ready p

pub record WalkGoes (rows : Rows) (foot : List ℕ) (z : ℕ) (first walked walked' : List ℕ) (ready ready' : List Ready) : Type 0 where
  pub as_many : length walked' ≡ length walked
  pub each : (x : ℕ) → (last_walked walked' x ≡ last_walked walked x) ⊎ ((x < length first) × (last_walked walked' x ≡ slice_index first x))
  pub ready_falls : ReadyFall ready ready'
  pub changed : (p : ℕ) → (ready_at ready' p ≡ ready_at ready p) ⊎ IsWalkOf rows first p (ready_at ready' p)
  pub walks : (x : StopNo) (p : ℕ) → p < length rows.nodes → IsWalkedFrom rows foot z (last_walked walked x.0) x ready p
      → IsWalkedFrom rows foot z (last_walked walked' x.0) x ready' p
