-- The rules of stop_times.txt by trip, and the calls of the trips that go.
--     TripsHold calls n                     no call of one of n trips breaks a rule, where `calls k` are the k-th trip's calls
--     IsFirstTripFault calls n row cause    of all broken rules the one of the least row, and in a row the first
--     IsFinished kept bare trip             the trip with its calls by stop sequence and with their times; a trip with fewer than two calls stays bare
--     StopTimesAccepted, IsStopTimesRefusal no rule is broken, by row and by trip; the first that is
use Rattle.std.specs.Prelude.{◌≡◌, ℕ, ◌<◌, ◌≤◌, ◌⊎◌, List, length, slice_get, slice_index_or, Vec, Option, Some, None, nat_lt, if◌then◌else◌}
use Rattle.std.specs.declared.alloc.Global.{Global}
use Rattle.move_model.specs.declared.refusal.Cause.{Cause}
use Rattle.trip_calls.specs.declared.fault.Fault.{Fault}
use Rattle.trip_calls.specs.declared.kept.KeptCall.{KeptCall}
use Rattle.trip_calls.specs.CallRules.{call_cause, HoldTogether, IsFirstFault}
use Rattle.trip_calls.specs.Filled.{IsFilled}
use Rattle.trip_calls.specs.Order.{IsTripOrder}
use Rattle.gtfs_feed.specs.declared.feed.FeedTrip.{FeedTrip}
use Rattle.gtfs_feed.specs.Calls.{StopRows, trip_calls, CallsAccepted, IsCallsRefusal}

-- a trip with fewer than two calls is passed over
abbrev pub Goes : List KeptCall → Type 0
Goes kept = 2 ≤ length kept

-- a call of a trip, in this row, breaks a rule
pub record IsTripFault (kept : List KeptCall) (row : ℕ) (because : Cause) : Type 0 where
  pub goes : Goes kept
  pub sorted : List KeptCall
  pub order : IsTripOrder kept sorted
  pub place : ℕ
  pub call : KeptCall
  pub here : slice_get sorted place ≡ Some call
  pub in_row : call.row ≡ row
  pub breaks : call_cause sorted place ≡ Some because

-- no call of a trip in a row below this one breaks a rule
pub record HoldsBelow (kept : List KeptCall) (row : ℕ) : Type 0 where
  pub sorted : List KeptCall
  pub order : IsTripOrder kept sorted
  pub holds : (place : ℕ) (call : KeptCall) → slice_get sorted place ≡ Some call → call.row < row → call_cause sorted place ≡ None

pub record IsFirstTripFault (calls : ℕ → List KeptCall) (n row : ℕ) (because : Cause) : Type 0 where
  pub trip : ℕ
  pub within : trip < n
  pub fault : IsTripFault (calls trip) row because
  pub first : (k : ℕ) → k < n → Goes (calls k) → HoldsBelow (calls k) row

-- no call of a trip breaks a rule
pub record Holds (kept : List KeptCall) : Type 0 where
  pub sorted : List KeptCall
  pub order : IsTripOrder kept sorted
  pub together : HoldTogether sorted

abbrev pub TripsHold : (ℕ → List KeptCall) → ℕ → Type 0
TripsHold calls n = (k : ℕ) → k < n → Goes (calls k) → Holds (calls k)

-- the calls by stop sequence, each with its times
pub record IsCallsOf (kept : List KeptCall) (trip : FeedTrip) : Type 0 where
  pub sorted : List KeptCall
  pub order : IsTripOrder kept sorted
  pub filled : IsFilled sorted trip.calls

pub record IsFinished (kept : List KeptCall) (bare trip : FeedTrip) : Type 0 where
  pub named : trip.name ≡ bare.name
  pub served : trip.service ≡ bare.service
  pub goes : Goes kept → IsCallsOf kept trip
  pub passed : length kept < 2 → trip ≡ bare

-- the lists hold these calls
abbrev pub IsListOf : List (Vec KeptCall Global) → (ℕ → List KeptCall) → Type 0
IsListOf kept calls = (k : ℕ) (d : Vec KeptCall Global) → k < length kept → (slice_index_or kept k d).items ≡ calls k

-- what a test of one trip found: no fault, and the trip is finished, or its first fault
abbrev pub IsOutcome : List KeptCall → FeedTrip → FeedTrip → Option Fault → Type 0
IsOutcome kept old new None = IsFinished kept old new × (Goes kept → Holds kept)
IsOutcome kept old new (Some fault) = Goes kept × ((sorted : List KeptCall) × IsTripOrder kept sorted × IsFirstFault sorted (length sorted) (Some fault))

-- what a test of so many trips found
abbrev pub AreOutcomes : (ℕ → List KeptCall) → ℕ → Option Fault → Type 0
AreOutcomes calls n None = TripsHold calls n
AreOutcomes calls n (Some fault) = IsFirstTripFault calls n fault.row fault.cause

-- the fault of the lesser row
abbrev pub lesser : Option Fault → Option Fault → Option Fault
lesser None other = other
lesser (Some first) None = Some first
lesser (Some first) (Some second) = if nat_lt second.row first.row then Some second else Some first

pub record StopTimesAccepted (stops : StopRows) (trips : List (List ℕ)) (bytes : List ℕ) : Type 0 where
  pub rows : CallsAccepted stops trips bytes
  pub hold : TripsHold (trip_calls stops trips bytes) (length trips)

-- the rules by trip are tested once all rows have passed theirs
abbrev pub IsStopTimesRefusal : StopRows → List (List ℕ) → List ℕ → ℕ → Cause → Type 0
IsStopTimesRefusal stops trips bytes row because =
    IsCallsRefusal stops trips bytes row because
    ⊎ (CallsAccepted stops trips bytes × IsFirstTripFault (trip_calls stops trips bytes) (length trips) row because)
