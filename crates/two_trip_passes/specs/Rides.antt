-- Second rides from all stops.
--     IsLabelOf places first ready y l     l is the label with which the stop y may be boarded
--     IsStopRidden routes .. label rows y  each row that departs from the stop y in time for the label is held, or one that
--                                          is no greater, unless walking from the start is no later than the label
--     RideGoes routes .. first ..          what riding leaves, wherever stops are boarded
--     IsBoardedLow places first ready l y  the label l with which the stop y was boarded is no greater than those it has now
--     AreReal s places first ready         the labels with which stops may be boarded are real
use Rattle.std.specs.Prelude.{◌≡◌, ℕ, ◌+◌, ◌<◌, ◌≤◌, ◌⊎◌, IsTrue, List, length, slice_get, slice_index, Some}
use Rattle.move_model.specs.declared.network.StopNo.{StopNo}
use Rattle.move_model.specs.Shortcut.{IsLess}
use Rattle.route_split.specs.declared.place.Place.{Place}
use Rattle.route_split.specs.Route.{Route, departures_of}
use Rattle.piece_laws.specs.declared.labels.Ready.{Ready}
use Rattle.piece_laws.specs.declared.labels.Second.{Second}
use Rattle.piece_laws.specs.declared.labels.Held.{Held}
use Rattle.piece_laws.specs.Pieces.{ready_entries, held_entries, HasReady}
use Rattle.piece_laws.specs.Tables.{never}
use Rattle.two_trip_rides.specs.First.{Source, IsWalked}
use Rattle.two_trip_rides.specs.Second.{ready_at, held_at}
use Rattle.two_trip_labels.specs.Second.{held_row, boarded_with, SecondGoes}
use Rattle.two_trip_labels.specs.Closed.{own_of, IsLabel}

abbrev pub place_ready : List ℕ → List Ready → StopNo → Ready
place_ready places ready y = ready_at ready (slice_index places y.0)

abbrev pub IsLabelOf : List ℕ → List ℕ → List Ready → StopNo → Ready → Type 0
IsLabelOf places first ready y l = IsLabel first (place_ready places ready y) y l

pub record IsStopRidden (routes : List Route) (foot : List ℕ) (z buffer : ℕ) (label : Ready) (rows : List (List Held)) (y : StopNo) : Type 0 where
  pub each : (r i row : ℕ) (route : Route) (on : Place) → slice_get routes r ≡ Some route → slice_get route.places i ≡ Some on → on.stop ≡ y
      → IsTrue on.board → i + 1 < length route.places → row < length route.trips → label.ready + buffer ≤ slice_index (departures_of route i) row
      → IsWalked foot z y label.ready ⊎ ¬ (IsLess (held_entries (boarded_with row on label)) (held_entries (held_at (held_row rows r) i)))

pub record RideGoes (routes : List Route) (foot : List ℕ) (z : ℕ) (places : List ℕ) (buffer : ℕ) (first : List ℕ) (ready boarded boarded' : List Ready)
    (rows rows' : List (List Held)) (best best' : List Second) : Type 0 where
  pub as_many : length boarded' ≡ length boarded
  pub each : (y : StopNo) → (ready_at boarded' y.0 ≡ ready_at boarded y.0) ⊎ ((y.0 < length first) × IsLabelOf places first ready y (ready_at boarded' y.0))
  pub goes : SecondGoes routes foot z places ready rows rows' best best'
  pub ridden : (y : StopNo) → IsStopRidden routes foot z buffer (ready_at boarded y.0) rows y → IsStopRidden routes foot z buffer (ready_at boarded' y.0) rows' y

pub record IsBoardedLow (places first : List ℕ) (ready : List Ready) (l : Ready) (y : StopNo) : Type 0 where
  pub own_low : ¬ (IsLess (ready_entries (own_of first y)) (ready_entries l))
  pub place_low : ¬ (IsLess (ready_entries (place_ready places ready y)) (ready_entries l))

pub record AreReal (s : Source) (places first : List ℕ) (ready : List Ready) : Type 0 where
  pub each : (y : StopNo) (l : Ready) → y.0 < length first → IsLabelOf places first ready y l → l.ready < never → HasReady s.network s.node s.second y l
