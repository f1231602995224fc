-- One call more of a trip, and the rules.
use Rattle.std.proofs.Common.{◌≡◌, ℕ, ◌+◌, ◌-◌, ◌<◌, ◌≤◌, List, [], ◌∷◌, ◌++◌, take, length, Option, Some, None, Bool, true, false, refl, ap, inl, inr, arith, below_more}
use Rattle.std.specs.Prelude.{slice_get, nat_lt, if◌then◌else◌}
use Rattle.std.proofs.lemmas.Bool.{cases_eq}
use Rattle.std.proofs.lemmas.Bool.Decides.{nat_tests}
use Rattle.std.proofs.lemmas.List.{take_more}
use Rattle.std.proofs.lemmas.Option.{get_or_from_slice_get}
use Rattle.move_model.specs.declared.refusal.Cause.{Cause}
use Rattle.trip_calls.specs.declared.kept.KeptCall.{KeptCall}
use Rattle.trip_calls.specs.declared.fault.Fault.{Fault}
use Rattle.trip_calls.specs.CallRules.{previous_sequence, last_departure, departure_behind, departure_after, call_cause, cause_of_call, IsFirstFault, with_cause}

pub previous-more : (calls : List KeptCall) (i : ℕ) (call : KeptCall) → slice_get calls i ≡ Some call → Some call.sequence ≡ previous_sequence calls (i + 1)
previous-more calls i call here =
    let later : nat_lt 0 (i + 1) ≡ true = grind arith in
    let back : i + 1 - 1 ≡ i = omega arith in
    rw (later, back, here) refl

pub departure-push : (calls : List KeptCall) (call : KeptCall) (earlier : Option ℕ)
    → departure_behind earlier (calls ++ call ∷ []) ≡ departure_after (departure_behind earlier calls) call.times
unfolding departure_behind
departure-push [] call earlier = refl
departure-push (first ∷ calls) call earlier = departure-push calls call (departure_after earlier first.times)

pub departure-more : (calls : List KeptCall) (i : ℕ) (call : KeptCall) → i < length calls → slice_get calls i ≡ Some call
    → last_departure (take (i + 1) calls) ≡ departure_after (last_departure (take i calls)) call.times
departure-more calls i call lt here =
    rw (take_more calls i call lt, get_or_from_slice_get calls i call call here) (departure-push (take i calls) call None)

pub cause-here : (calls : List KeptCall) (i : ℕ) (call : KeptCall) → slice_get calls i ≡ Some call → call_cause calls i ≡ cause_of_call calls i call
unfolding call_cause
cause-here calls i call here = rw here refl

pub none-more : (calls : List KeptCall) (i : ℕ) (fault : Option Fault) → IsFirstFault calls i fault → call_cause calls i ≡ None → IsFirstFault calls (i + 1) fault
none-more calls i None so_far none = below_more _ _ so_far none
none-more calls i (Some fault) so_far none =
    let (at, call, lt, here, row, cause) = so_far.0 in (
      (at, call, omega arith, here, row, cause),
      λ j other below there less. elim (cases_eq j i) [
        | inl same ↦ rw same none
        | inr apart ↦ so_far.1 j other (omega arith) there less
      ],
    )

same-call : (calls : List KeptCall) (i : ℕ) (call other : KeptCall) → slice_get calls i ≡ Some call → slice_get calls i ≡ Some other → call ≡ other
same-call calls i call other a b = cc (a, b)

choose : (b : Bool) (x y : Option Fault) (P : Option Fault → Type 0) → (b ≡ true → P x) → (b ≡ false → P y) → P (if b then x else y)
choose true x y P f g = f refl
choose false x y P f g = g refl

lt-of : (m n : ℕ) → nat_lt m n ≡ true → m < n
lt-of m n e = grind (arith, nat_tests)

ge-of : (m n : ℕ) → nat_lt m n ≡ false → n ≤ m
ge-of m n e = grind (arith, nat_tests)

pub fault-more : (calls : List KeptCall) (i : ℕ) (call : KeptCall) (fault : Option Fault) (found : Option Cause) → IsFirstFault calls i fault → slice_get calls i ≡ Some call
    → call_cause calls i ≡ found → IsFirstFault calls (i + 1) (with_cause fault call.row found)
fault-more calls i call fault None so_far here broken = none-more calls i fault so_far broken
fault-more calls i call None (Some cause) so_far here broken = (
  (i, call, omega arith, here, refl, broken),
  λ j other below there less. elim (cases_eq j i) [
    | inl same ↦ let e : slice_get calls i ≡ Some other = rw same at there in let s = same-call calls i call other here e in absurd (omega (arith, ap (λ (c : KeptCall). c.row) s))
    | inr apart ↦ so_far j (omega arith)
  ],
)
fault-more calls i call (Some first) (Some cause) so_far here broken =
    choose (nat_lt first.row call.row) (Some first) (Some (record { row = call.row; cause = cause })) (λ f. IsFirstFault calls (i + 1) f)
    (λ before. let (at, one, lt, there, row, is) = so_far.0 in (
      (at, one, omega arith, there, row, is),
      λ j other below there' less. elim (cases_eq j i) [
        | inl same ↦ let e : slice_get calls i ≡ Some other = rw same at there' in let s = same-call calls i call other here e in
            absurd (omega (arith, lt-of first.row call.row before, ap (λ (c : KeptCall). c.row) s))
        | inr apart ↦ so_far.1 j other (omega arith) there' less
      ],
    ))
    (λ behind. (
      (i, call, omega arith, here, refl, broken),
      λ j other below there less. elim (cases_eq j i) [
        | inl same ↦ let e : slice_get calls i ≡ Some other = rw same at there in let s = same-call calls i call other here e in absurd (omega (arith, ap (λ (c : KeptCall). c.row) s))
        | inr apart ↦ so_far.1 j other (omega arith) there (omega (arith, ge-of first.row call.row behind))
      ],
    ))
