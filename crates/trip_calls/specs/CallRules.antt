-- The rules that the calls of a trip, sorted by stop sequence, keep together.
--     previous_sequence calls i      the stop sequence of the call before the i-th
--     last_departure calls           the departure of the last call that has times
--     call_cause calls i             the cause of the first rule that the i-th call breaks
--     HoldTogether calls             no call breaks a rule
--     IsFirstFault calls n fault     of the first n calls that break a rule, the fault names the least row with its first cause
use Rattle.std.specs.Prelude.{◌≡◌, ℕ, ◌+◌, ◌-◌, ◌<◌, ◌==◌, ◌||◌, Bool, List, [], ◌∷◌, length, take, slice_get, Option, Some, None, option_map, option_and_then, nat_lt, if◌then◌else◌}
use Rattle.move_model.specs.declared.refusal.Cause.{Cause}
use Rattle.move_model.specs.declared.refusal.Cause.TheVariants as cause
use Rattle.refusals.specs.Refusal.{or_then}
use Rattle.trip_calls.specs.declared.kept.KeptCall.{KeptCall}
use Rattle.trip_calls.specs.declared.kept.Times.{Times}
use Rattle.trip_calls.specs.declared.fault.Fault.{Fault}

-- two rows of a trip have one stop sequence: the later row is repeated
unfoldable pub repeated_broken : Option ℕ → ℕ → Option Cause
repeated_broken None sequence = None
repeated_broken (Some before) sequence = if before == sequence then Some cause.Repeated else None

-- the first or the last call has neither time
unfoldable pub no_time_broken : Bool → Option Times → Option Cause
no_time_broken at_end (Some own) = None
no_time_broken at_end None = if at_end then Some cause.NoTime else None

-- a call's departure is before its arrival, or its arrival before the departure of the nearest earlier call that has times
unfoldable pub falls_broken : Option ℕ → Option Times → Option Cause
falls_broken earlier None = None
falls_broken None (Some own) = if nat_lt own.dep own.arr then Some cause.TimeFalls else None
falls_broken (Some departs) (Some own) = if nat_lt own.dep own.arr || nat_lt own.arr departs then Some cause.TimeFalls else None

abbrev pub previous_sequence : List KeptCall → ℕ → Option ℕ
previous_sequence calls i = if nat_lt 0 i then option_map (λ call. call.sequence) (slice_get calls (i - 1)) else None

abbrev pub departure_after : Option ℕ → Option Times → Option ℕ
departure_after earlier None = earlier
departure_after earlier (Some own) = Some own.dep

-- the departure of the last call that has times, of calls behind an earlier departure
unfoldable pub departure_behind : Option ℕ → List KeptCall → Option ℕ
departure_behind earlier [] = earlier
departure_behind earlier (call ∷ calls) = departure_behind (departure_after earlier call.times) calls

abbrev pub last_departure : List KeptCall → Option ℕ
last_departure calls = departure_behind None calls

abbrev pub is_end : List KeptCall → ℕ → Bool
is_end calls i = (i == 0) || (i + 1 == length calls)

abbrev pub cause_of_call : List KeptCall → ℕ → KeptCall → Option Cause
cause_of_call calls i call =
    or_then (repeated_broken (previous_sequence calls i) call.sequence)
    (or_then (no_time_broken (is_end calls i) call.times) (falls_broken (last_departure (take i calls)) call.times))

unfoldable pub call_cause : List KeptCall → ℕ → Option Cause
call_cause calls i = option_and_then (cause_of_call calls i) (slice_get calls i)

abbrev pub HoldTogether : List KeptCall → Type 0
HoldTogether calls = (i : ℕ) → i < length calls → call_cause calls i ≡ None

-- the fault of the lesser row: the one so far, or that of a row with this cause
abbrev pub with_cause : Option Fault → ℕ → Option Cause → Option Fault
with_cause fault row None = fault
with_cause None row (Some cause) = Some (record { row = row; cause = cause })
with_cause (Some first) row (Some cause) = if nat_lt first.row row then Some first else Some (record { row = row; cause = cause })

abbrev pub IsFirstFault : List KeptCall → ℕ → Option Fault → Type 0
IsFirstFault calls n None = (i : ℕ) → i < n → call_cause calls i ≡ None
IsFirstFault calls n (Some fault) =
    ((i : ℕ) × (call : KeptCall) × (i < n) × (slice_get calls i ≡ Some call) × (call.row ≡ fault.row) × (call_cause calls i ≡ Some fault.cause))
    × ((i : ℕ) (call : KeptCall) → i < n → slice_get calls i ≡ Some call → call.row < fault.row → call_cause calls i ≡ None)
