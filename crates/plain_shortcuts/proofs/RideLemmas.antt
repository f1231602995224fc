-- Rides of a trip, call by call.
use Rattle.std.proofs.Common.{◌≡◌, ℕ, ◌+◌, ◌<◌, ◌≤◌, ◌⊎◌, false, List, Some, length, slice_get, refl, sym, ap, ◌∙◌, subst, inl, inr, arith}
use Rattle.std.specs.Prelude.{◌↔◌, IsTrue, Contains}
use Rattle.std.proofs.lemmas.Bool.{cases_eq}
use Rattle.std.proofs.lemmas.Option.{slice_get_within}
use Rattle.move_model.specs.declared.network.Network.{Network}
use Rattle.move_model.specs.declared.network.TripNo.{TripNo}
use Rattle.move_model.specs.declared.network.Trip.{Trip}
use Rattle.move_model.specs.declared.network.Call.{Call}
use Rattle.move_model.specs.declared.journey.Ride.{Ride}
use Rattle.move_model.specs.Journey.{HasCall, IsRide}
use Rattle.plain_shortcuts.specs.declared.rides.RideCalls.{RideCalls}
use Rattle.plain_shortcuts.specs.Rides.{IsTripRide, IsRideOf}

-- what is read past the end
abbrev pub no_call : Call
no_call = record { stop = record { 0 = 0 }; arr = 0; dep = 0; board = false; alight = false }

abbrev pub no_ride : RideCalls
no_ride = record { ride = record { trip = record { 0 = 0 }; board = 0; alight = 0 }; on = no_call; off = no_call }

-- a ride that is boarded at one call, and left before another
abbrev pub BoardedUpTo : TripNo → List Call → ℕ → ℕ → RideCalls → Type 0
BoardedUpTo trip calls board high r = IsTripRide trip calls r × (r.ride.board ≡ board) × (r.ride.alight < high)

abbrev pub ride_calls : TripNo → ℕ → ℕ → Call → Call → RideCalls
ride_calls trip board alight on off = record { ride = record { trip = trip; board = board; alight = alight }; on = on; off = off }

same_ride : (trip : TripNo) (calls : List Call) (board k : ℕ) (on off : Call) (r : RideCalls) → slice_get calls board ≡ Some on → slice_get calls k ≡ Some off
    → IsTripRide trip calls r → r.ride.board ≡ board → r.ride.alight ≡ k → ride_calls trip board k on off ≡ r
same_ride trip calls board k on off r is_on is_off is at to =
    let first : Some on ≡ Some r.on = sym is_on ∙ ap (λ (i : ℕ). slice_get calls i) (sym at) ∙ is.boards in
    let last : Some off ≡ Some r.off = sym is_off ∙ ap (λ (i : ℕ). slice_get calls i) (sym to) ∙ is.leaves in
    let one : on ≡ r.on = cc in
    let other : off ≡ r.off = cc in
    let trip_is = sym is.of_trip in
    let at' = sym at in
    let to' = sym to in
    λ i. record { ride = record { trip = trip_is i; board = at' i; alight = to' i }; on = one i; off = other i }

module _ (trip : TripNo) (calls : List Call) (board k : ℕ) (on off : Call) (is_on : slice_get calls board ≡ Some on) (is_off : slice_get calls k ≡ Some off) where
  -- a call where the trip may be left
  pub boarded_more : board < k → IsTrue on.board → IsTrue off.alight → (r : RideCalls)
      → BoardedUpTo trip calls board (k + 1) r ↔ (BoardedUpTo trip calls board k r ⊎ (ride_calls trip board k on off ≡ r))
  boarded_more forward may_board may_alight r = (
    λ (is, at, low). elim (cases_eq r.ride.alight k) [
      | inl to ↦ inr (same_ride trip calls board k on off r is_on is_off is at to)
      | inr ne ↦ inl (is, at, omega (arith, low, ne))
    ],
    λ h. elim h [
      | inl (is, at, low) ↦ (is, at, omega (arith, low))
      | inr e ↦
          subst (λ (q : RideCalls). BoardedUpTo trip calls board (k + 1) q) e (
            record { of_trip = refl; forward = forward; boards = is_on; may_board = may_board; leaves = is_off; may_alight = may_alight },
            refl,
            omega arith,
          )
    ],
  )

  -- a call where it may not
  pub boarded_none : (IsTrue off.alight → ⊥) → (r : RideCalls) → BoardedUpTo trip calls board (k + 1) r ↔ BoardedUpTo trip calls board k r
  boarded_none may_not r = (
    λ (is, at, low). elim (cases_eq r.ride.alight k) [
      | inl to ↦
          let last : Some off ≡ Some r.off = sym is_off ∙ ap (λ (i : ℕ). slice_get calls i) (sym to) ∙ is.leaves in
          let same : r.off ≡ off = cc in
          absurd (may_not (subst (λ (c : Call). IsTrue c.alight) same is.may_alight))
      | inr ne ↦ (is, at, omega (arith, low, ne))
    ],
    λ (is, at, low). (is, at, omega (arith, low)),
  )

-- no ride is boarded where that is not allowed
pub none_boarded : (trip : TripNo) (calls : List Call) (board : ℕ) (on : Call) → slice_get calls board ≡ Some on → (IsTrue on.board → ⊥) → (r : RideCalls)
    → IsTripRide trip calls r × (r.ride.board ≡ board) → ⊥
none_boarded trip calls board on is_on may_not r (is, at) =
    let first : Some on ≡ Some r.on = sym is_on ∙ ap (λ (i : ℕ). slice_get calls i) (sym at) ∙ is.boards in
    let same : r.on ≡ on = cc in
    may_not (subst (λ (c : Call). IsTrue c.board) same is.may_board)

-- every ride is left at a call
pub boarded_all : (trip : TripNo) (calls : List Call) (board k : ℕ) (r : RideCalls) → length calls ≤ k
    → (IsTripRide trip calls r × (r.ride.board ≡ board)) ↔ BoardedUpTo trip calls board k r
boarded_all trip calls board k r all = (
  λ (is, at). (is, at, omega (arith, slice_get_within calls r.ride.alight r.off is.leaves, all)),
  λ (is, at, low). (is, at),
)

-- a ride that is boarded before a call
abbrev pub BoardedBelow : TripNo → List Call → ℕ → RideCalls → Type 0
BoardedBelow trip calls high r = IsTripRide trip calls r × (r.ride.board < high)

pub below_call : (trip : TripNo) (calls : List Call) (k : ℕ) (r : RideCalls)
    → BoardedBelow trip calls (k + 1) r ↔ (BoardedBelow trip calls k r ⊎ (IsTripRide trip calls r × (r.ride.board ≡ k)))
below_call trip calls k r = (
  λ (is, low). elim (cases_eq r.ride.board k) [ inl e ↦ inr (is, e) | inr ne ↦ inl (is, omega (arith, low, ne)) ],
  λ h. elim h [ inl (is, low) ↦ (is, omega (arith, low)) | inr (is, e) ↦ (is, omega (arith, e)) ],
)

pub below_calls : (trip : TripNo) (calls : List Call) (k : ℕ) (r : RideCalls) → length calls ≤ k → IsTripRide trip calls r ↔ BoardedBelow trip calls k r
below_calls trip calls k r all = (λ is. (is, omega (arith, slice_get_within calls r.ride.board r.on is.boards, all)), λ (is, low). is)

-- a ride of a trip before another
abbrev pub RidesBelow : Network → ℕ → RideCalls → Type 0
RidesBelow n t r = IsRideOf n r × (r.ride.trip.0 < t)

trip_no : (t : TripNo) (k : ℕ) → t.0 ≡ k → t ≡ (let u : TripNo = record { 0 = k } in u)
trip_no t k e = ap (λ (i : ℕ). let u : TripNo = record { 0 = i } in u) e

pub below_trip : (n : Network) (t : ℕ) (trip : Trip) (r : RideCalls) → slice_get n.trips t ≡ Some trip
    → RidesBelow n (t + 1) r ↔ (RidesBelow n t r ⊎ IsTripRide (record { 0 = t }) trip.calls r)
below_trip n t trip r is_trip = (
  λ (is, low). elim (cases_eq r.ride.trip.0 t) [
    | inl e ↦
        let board = is.boards in
        let leave = is.leaves in
        let one : Some trip ≡ Some board.0 = sym is_trip ∙ ap (λ (i : ℕ). slice_get n.trips i) (sym e) ∙ board.1 in
        let two : Some trip ≡ Some leave.0 = sym is_trip ∙ ap (λ (i : ℕ). slice_get n.trips i) (sym e) ∙ leave.1 in
        let same : board.0 ≡ trip = cc in
        let also : leave.0 ≡ trip = cc in
        inr (record {
          of_trip = trip_no r.ride.trip t e;
          forward = is.forward;
          boards = subst (λ (u : Trip). slice_get u.calls r.ride.board ≡ Some r.on) same board.2;
          may_board = is.may_board;
          leaves = subst (λ (u : Trip). slice_get u.calls r.ride.alight ≡ Some r.off) also leave.2;
          may_alight = is.may_alight;
        })
    | inr ne ↦ inl (is, omega (arith, low, ne))
  ],
  λ h. elim h [
    | inl (is, low) ↦ (is, omega (arith, low))
    | inr is ↦
        let no : r.ride.trip.0 ≡ t = ap (λ (u : TripNo). u.0) is.of_trip in
        let there : slice_get n.trips r.ride.trip.0 ≡ Some trip = ap (λ (i : ℕ). slice_get n.trips i) no ∙ is_trip in (
          record {
            forward = is.forward;
            boards = (trip, there, is.boards);
            may_board = is.may_board;
            leaves = (trip, there, is.leaves);
            may_alight = is.may_alight;
          },
          omega (arith, no),
        )
  ],
)

pub below_trips : (n : Network) (t : ℕ) (r : RideCalls) → length n.trips ≤ t → IsRideOf n r ↔ RidesBelow n t r
below_trips n t r all = (
  λ is. (is, omega (arith, slice_get_within n.trips r.ride.trip.0 is.boards.0 is.boards.1, all)),
  λ (is, low). is,
)
