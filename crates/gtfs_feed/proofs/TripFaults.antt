-- The first fault of one trip more.
use Rattle.std.proofs.Common.{◌≡◌, ℕ, ◌+◌, ◌<◌, ◌≤◌, List, length, Option, Some, None, Bool, true, false, refl, subst, inl, inr, arith}
use Rattle.std.specs.Prelude.{nat_lt, if◌then◌else◌}
use Rattle.std.proofs.lemmas.Bool.{cases_lt}
use Rattle.std.proofs.lemmas.Bool.Decides.{nat_tests}
use Rattle.std.proofs.lemmas.Option.{slice_get_within}
use Rattle.move_model.specs.declared.refusal.Cause.{Cause}
use Rattle.trip_calls.specs.declared.fault.Fault.{Fault}
use Rattle.trip_calls.specs.declared.kept.KeptCall.{KeptCall}
use Rattle.trip_calls.specs.CallRules.{HoldTogether, IsFirstFault}
use Rattle.trip_calls.specs.Filled.{IsFilled}
use Rattle.trip_calls.specs.Order.{IsTripOrder}
use Rattle.gtfs_feed.specs.declared.feed.FeedTrip.{FeedTrip}
use Rattle.gtfs_feed.specs.TripRules.{Goes, IsTripFault, HoldsBelow, IsFirstTripFault, Holds, IsOutcome, AreOutcomes, lesser}

below-of_holds : (kept : List KeptCall) (row : ℕ) → Holds kept → HoldsBelow kept row
below-of_holds kept row h = record { sorted = h.sorted; order = h.order; holds = λ place call here lt. h.together place (slice_get_within h.sorted place call here) }

below-weaker : (kept : List KeptCall) (m row : ℕ) → row ≤ m → HoldsBelow kept m → HoldsBelow kept row
below-weaker kept m row le h = record { sorted = h.sorted; order = h.order; holds = λ place call here lt. h.holds place call here (omega arith) }

below-of_first : (kept sorted : List KeptCall) (fault : Fault) → IsTripOrder kept sorted → IsFirstFault sorted (length sorted) (Some fault) → HoldsBelow kept fault.row
below-of_first kept sorted fault order f =
    record { sorted = sorted; order = order; holds = λ place call here lt. f.1 place call (slice_get_within sorted place call here) here lt }

fault-of_first : (kept sorted : List KeptCall) (fault : Fault) → Goes kept → IsTripOrder kept sorted → IsFirstFault sorted (length sorted) (Some fault) → IsTripFault kept fault.row fault.cause
fault-of_first kept sorted fault goes order f =
    let found = f.0 in
    record { goes = goes; sorted = sorted; order = order; place = found.0; call = found.1; here = found.3; in_row = found.4; breaks = found.5 }

-- what holds below n and at n
up : (P : ℕ → Type 0) (n : ℕ) → ((k : ℕ) → k < n → P k) → P n → (k : ℕ) → k < n + 1 → P k
up P n below here k lt = elim (cases_lt k n) [ inl less ↦ below k less | inr more ↦ (let same : n ≡ k = omega arith in subst P same here) ]

-- the trip more has the first fault
first-new : (calls : ℕ → List KeptCall) (n : ℕ) (fault : Fault) → ((k : ℕ) → k < n → Goes (calls k) → HoldsBelow (calls k) fault.row)
    → Goes (calls n) × ((sorted : List KeptCall) × IsTripOrder (calls n) sorted × IsFirstFault sorted (length sorted) (Some fault))
    → IsFirstTripFault calls (n + 1) fault.row fault.cause
first-new calls n fault below (goes, found) = record {
  trip = n;
  within = omega arith;
  fault = fault-of_first (calls n) found.0 fault goes found.1 found.2;
  first = up (λ k. Goes (calls k) → HoldsBelow (calls k) fault.row) n below (λ g. below-of_first (calls n) found.0 fault found.1 found.2);
}

-- the fault so far stays the first
first-old : (calls : ℕ → List KeptCall) (n row : ℕ) (because : Cause) → IsFirstTripFault calls n row because → (Goes (calls n) → HoldsBelow (calls n) row)
    → IsFirstTripFault calls (n + 1) row because
first-old calls n row because f here = record {
  trip = f.trip;
  within = (let h = f.within in omega arith);
  fault = f.fault;
  first = up (λ k. Goes (calls k) → HoldsBelow (calls k) row) n f.first here;
}

both-found : (calls : ℕ → List KeptCall) (n : ℕ) (first second : Fault) (b : Bool) → nat_lt second.row first.row ≡ b → IsFirstTripFault calls n first.row first.cause
    → Goes (calls n) × ((sorted : List KeptCall) × IsTripOrder (calls n) sorted × IsFirstFault sorted (length sorted) (Some second))
    → AreOutcomes calls (n + 1) (if b then Some second else Some first)
both-found calls n first second true less f found =
    let lt : second.row < first.row = grind (arith, nat_tests) in
    first-new calls n second (λ k below goes. below-weaker (calls k) first.row second.row (omega arith) (f.first k below goes)) found
both-found calls n first second false less f found =
    let le : first.row ≤ second.row = grind (arith, nat_tests) in
    first-old calls n first.row first.cause f (λ goes. below-weaker (calls n) second.row first.row le (below-of_first (calls n) found.1.0 second found.1.1 found.1.2))

-- the outcome of one trip more
pub outcomes-more : (calls : ℕ → List KeptCall) (n : ℕ) (fault found : Option Fault) (old new : FeedTrip) → AreOutcomes calls n fault → IsOutcome (calls n) old new found
    → AreOutcomes calls (n + 1) (lesser fault found)
outcomes-more calls n None None old new so_far one = up (λ k. Goes (calls k) → Holds (calls k)) n so_far one.1
outcomes-more calls n None (Some second) old new so_far one =
    first-new calls n second (λ k lt goes. below-of_holds (calls k) second.row (so_far k lt goes)) one
outcomes-more calls n (Some first) None old new so_far one =
    first-old calls n first.row first.cause so_far (λ goes. below-of_holds (calls n) first.row (one.1 goes))
outcomes-more calls n (Some first) (Some second) old new so_far one = both-found calls n first second (nat_lt second.row first.row) refl so_far one

some-of : {X : Type 0} (b : Bool) (first second : Fault) → (if b then Some second else Some first) ≡ None → X
some-of true first second e = cc e
some-of false first second e = cc e

pub lesser-none : (fault found : Option Fault) → lesser fault found ≡ None → (fault ≡ None) × (found ≡ None)
lesser-none None found e = (refl, e)
lesser-none (Some first) None e = cc e
lesser-none (Some first) (Some second) e = some-of (nat_lt second.row first.row) first second e

-- a trip with fewer than two calls stays as it is
pub finished-short : (kept : List KeptCall) (trip : FeedTrip) → length kept < 2 → IsOutcome kept trip trip None
finished-short kept trip short =
    (record { named = refl; served = refl; goes = λ goes. absurd (omega arith); passed = λ few. refl }, λ goes. absurd (omega arith))

-- a trip whose calls are filled in
pub finished-filled : (kept sorted : List KeptCall) (old new : FeedTrip) → 2 ≤ length kept → IsTripOrder kept sorted → HoldTogether sorted → IsFilled sorted new.calls
    → new.name ≡ old.name → new.service ≡ old.service → IsOutcome kept old new None
finished-filled kept sorted old new goes order holds filled named served = (
  record {
    named = named;
    served = served;
    goes = λ g. record { sorted = sorted; order = order; filled = filled };
    passed = λ few. absurd (omega arith);
  },
  λ g. record { sorted = sorted; order = order; together = holds },
)

-- a trip with a fault
pub faulty : (kept sorted : List KeptCall) (old new : FeedTrip) (fault : Fault) → 2 ≤ length kept → IsTripOrder kept sorted → IsFirstFault sorted (length sorted) (Some fault)
    → IsOutcome kept old new (Some fault)
faulty kept sorted old new fault goes order first = (goes, (sorted, order, first))
