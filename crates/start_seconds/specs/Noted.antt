-- Starts that were noted so far, call by call.
--     HasCalls n t calls             these are the calls of the trip t
--     start_of buffer rows call      the start of a call
--     IsNoted buffer rows call old new   the start of the call was put last, where it has one
--     IsStartCall n t k call next    a call that may be boarded and is not the last
--     IsNoting n rows t k starts     what holds after all calls of the trips before t, and the first k calls of t
use Rattle.std.specs.Prelude.{◌≡◌, ◌⊎◌, ℕ, ◌+◌, ◌-◌, ◌<◌, ◌≤◌, IsTrue, List, [], ◌∷◌, ◌++◌, Some, slice_get, Contains}
use Rattle.move_model.specs.declared.network.Network.{Network}
use Rattle.move_model.specs.declared.network.Trip.{Trip}
use Rattle.move_model.specs.declared.network.Call.{Call}
use Rattle.move_model.specs.Journey.{HasCall}
use Rattle.stop_rows.specs.Rows.{Rows, place_at}
use Rattle.start_seconds.specs.declared.start.Start.{Start}
use Rattle.start_seconds.specs.Starts.{HasStart}

abbrev pub HasCalls : Network → ℕ → List Call → Type 0
HasCalls n t calls = (trip : Trip) × (slice_get n.trips t ≡ Some trip) × (trip.calls ≡ calls)

abbrev pub start_of : ℕ → Rows → Call → Start
start_of buffer rows call = record { place = place_at rows call.stop; second = call.dep - buffer }

abbrev pub IsNoted : ℕ → Rows → Call → List Start → List Start → Type 0
IsNoted buffer rows call old new =
    (IsTrue call.board × (buffer ≤ call.dep) × (new ≡ old ++ start_of buffer rows call ∷ []))
    ⊎ ((IsTrue call.board → buffer ≤ call.dep → ⊥) × (new ≡ old))

pub record IsStartCall (n : Network) (t k : ℕ) (call : Call) : Type 0 where
  pub next : Call
  pub here : HasCall n (record { 0 = t }) k call
  pub goes_on : HasCall n (record { 0 = t }) (k + 1) next
  pub may_board : IsTrue call.board
  pub in_time : n.buffer ≤ call.dep

pub record IsNoting (n : Network) (rows : Rows) (t k : ℕ) (starts : List Start) : Type 0 where
  pub only : (start : Start) → Contains starts start → HasStart n rows start
  pub before : (i j : ℕ) (call : Call) → i < t → IsStartCall n i j call → Contains starts (start_of n.buffer rows call)
  pub here : (j : ℕ) (call : Call) → j < k → IsStartCall n t j call → Contains starts (start_of n.buffer rows call)
