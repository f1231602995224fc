-- The times of a trip's calls.
--     IsBetween calls p i q from to      the nearest calls with times around the i-th are the p-th and the q-th, with these
--     IsFilled calls filled              the calls with their times; between the nearest ones that have times, seconds pass evenly
--     IsTimely calls second              no second falls, and none is past the last second of a time, or of a call past this one
use Rattle.std.specs.Prelude.{◌≡◌, ℕ, ◌+◌, ◌-◌, ◌*◌, ◌/◌, ◌<◌, ◌≤◌, List, [], ◌∷◌, length, take, drop, slice_get, All, Some, None, IfSome}
use Rattle.std.specs.List.{AllAdjacentBelow}
use Rattle.move_model.specs.declared.network.Call.{Call}
use Rattle.trip_calls.specs.declared.kept.KeptCall.{KeptCall}
use Rattle.trip_calls.specs.declared.kept.Times.{Times}

abbrev pub with_times : KeptCall → ℕ → ℕ → Call
with_times call arrives departs = record { stop = call.stop; arr = arrives; dep = departs; board = call.board; alight = call.alight }

-- of `steps` equal steps from one second to a later one, the second after `step` of them
abbrev pub second_between : ℕ → ℕ → ℕ → ℕ → ℕ
second_between from to step steps = from + (to - from) * step / steps

abbrev pub HasTimes : List KeptCall → ℕ → Times → Type 0
HasTimes calls i own = (call : KeptCall) × (slice_get calls i ≡ Some call) × (call.times ≡ Some own)

-- none of the calls between two places has times
abbrev pub AllUntimed : List KeptCall → ℕ → ℕ → Type 0
AllUntimed calls p q = (k : ℕ) (call : KeptCall) → p < k → k < q → slice_get calls k ≡ Some call → call.times ≡ None

pub record IsBetween (calls : List KeptCall) (p i q : ℕ) (from to : Times) : Type 0 where
  pub behind : p < i
  pub ahead : i < q
  pub departs : HasTimes calls p from
  pub arrives : HasTimes calls q to
  pub untimed : AllUntimed calls p q

-- a call has its own times, and else a second between those of the nearest calls that have times, rounded down
pub record IsFilled (calls : List KeptCall) (filled : List Call) : Type 0 where
  pub long : length filled ≡ length calls
  pub given : (i : ℕ) (call : KeptCall) (own : Times) → slice_get calls i ≡ Some call → call.times ≡ Some own
      → slice_get filled i ≡ Some (with_times call own.arr own.dep)
  pub between : (p i q : ℕ) (call : KeptCall) (from to : Times) → IsBetween calls p i q from to → slice_get calls i ≡ Some call
      → slice_get filled i ≡ Some (with_times call (second_between from.dep to.arr (i - p) (q - p)) (second_between from.dep to.arr (i - p) (q - p)))

-- calls without times, which seconds pass evenly
unfoldable pub passed : ℕ → ℕ → ℕ → ℕ → List KeptCall → List Call
passed from to step steps [] = []
passed from to step steps (call ∷ calls) =
    with_times call (second_between from to step steps) (second_between from to step steps) ∷ passed from to (step + 1) steps calls

-- the calls from a place up to another, where the call before them departs and the call behind them arrives
abbrev pub gap : List KeptCall → ℕ → ℕ → ℕ → ℕ → List Call
gap calls begun place departs arrives = passed departs arrives 1 (place + 1 - begun) (take (place - begun) (drop begun calls))

-- no second falls in a list of calls or is past the last second of a time, and none of the calls departs after a second
pub record IsTimely (calls : List Call) (second : ℕ) : Type 0 where
  pub stays : All (λ call. call.arr ≤ call.dep) calls
  pub goes_on : AllAdjacentBelow (λ call next. call.dep ≤ next.arr) calls (length calls)
  pub in_time : All (λ call. call.dep ≤ 3599999) calls
  pub behind : All (λ call. call.dep ≤ second) calls

-- the times of a call, where it has any, are seconds of a time
abbrev pub IsInTime : KeptCall → Type 0
IsInTime call = IfSome call.times (λ own. (own.arr ≤ 3599999) × (own.dep ≤ 3599999))
