-- The calls of a trip are filled in one way.
use Rattle.std.proofs.Common.{◌≡◌, ◌∙◌, ℕ, zero, suc, ◌+◌, ◌-◌, ◌<◌, ◌≤◌, true, List, length, take, Option, Some, None, refl, sym, ap, arith, inl, inr, ◌⊎◌}
use Rattle.std.specs.Prelude.{slice_get, slice_index_or}
use Rattle.std.proofs.lemmas.Bool.{cases_lt}
use Rattle.std.proofs.lemmas.Option.{get_or_from_slice_get}
use Rattle.std.proofs.lemmas.List.{same_lists}
use Rattle.move_model.specs.declared.network.Call.{Call}
use Rattle.trip_calls.specs.declared.kept.KeptCall.{KeptCall}
use Rattle.trip_calls.specs.declared.kept.Times.{Times}
use Rattle.std.proofs.lemmas.Bool.Decides.{nat_tests}
use Rattle.move_model.specs.declared.refusal.Cause.{Cause}
use Rattle.move_model.specs.declared.refusal.Cause.TheVariants as cause
use Rattle.refusals.specs.Refusal.{or_then}
use Rattle.trip_calls.specs.CallRules.{call_cause, cause_of_call, repeated_broken, previous_sequence, no_time_broken, falls_broken, last_departure, HoldTogether, is_end}
use Rattle.trip_calls.specs.Filled.{HasTimes, IsBetween, IsFilled}
use Rattle.top_call.proofs.ListLemmas.{slice_at}

-- a call has times, or has none
times_of : (o : Option Times) → ((own : Times) × (o ≡ Some own)) ⊎ (o ≡ None)
times_of None = inr refl
times_of (Some own) = inl (own, refl)

-- the nearest call before a place that has times
record Behind (calls : List KeptCall) (i : ℕ) : Type 0 where
  p : ℕ
  from : Times
  before : p < i
  has : HasTimes calls p from
  untimed : (k : ℕ) (call : KeptCall) → p < k → k < i → slice_get calls k ≡ Some call → call.times ≡ None

-- the nearest call from a place on that has times
record Ahead (calls : List KeptCall) (i : ℕ) : Type 0 where
  q : ℕ
  to : Times
  behind : i ≤ q
  has : HasTimes calls q to
  untimed : (k : ℕ) (call : KeptCall) → i ≤ k → k < q → slice_get calls k ≡ Some call → call.times ≡ None

one-call : {X : Type 0} (o : Option X) (x y : X) → o ≡ Some x → o ≡ Some y → x ≡ y
one-call o x y a b = let e : Some x ≡ Some y = sym a ∙ b in cc e

one-more : (calls : List KeptCall) (k : ℕ) (call : KeptCall) → slice_get calls k ≡ Some call → call.times ≡ None → Behind calls k → Behind calls (suc k)
one-more calls k call here none b = record {
  p = b.p;
  from = b.from;
  before = (let h = b.before in omega arith);
  has = b.has;
  untimed = λ j other lt le at. elim (cases_lt j k) [
    | inl less ↦ b.untimed j other lt less at
    | inr more ↦ (let same : j ≡ k = omega arith in
        let it : call ≡ other = one-call (slice_get calls k) call other here (rw same at at) in
        ap (λ (c : KeptCall). c.times) (sym it) ∙ none)
  ];
}

behind-of : (calls : List KeptCall) (first : Times) (i : ℕ) → HasTimes calls 0 first → i < length calls → Behind calls (suc i)
behind-of calls first zero has lt = record {
  p = 0;
  from = first;
  before = omega arith;
  has = has;
  untimed = λ k call lo hi at. absurd (omega arith);
}
behind-of calls first (suc i) has lt =
    let at = slice_at calls (suc i) lt in
    elim (times_of at.0.times) [
      | inl own ↦ record {
        p = suc i;
        from = own.0;
        before = omega arith;
        has = (at.0, at.1, own.1);
        untimed = λ k call lo hi here. absurd (omega arith);
      }
      | inr none ↦ one-more calls (suc i) at.0 at.1 none (behind-of calls first i has (omega arith))
    ]

one-earlier : (calls : List KeptCall) (i : ℕ) (call : KeptCall) → slice_get calls i ≡ Some call → call.times ≡ None → Ahead calls (suc i) → Ahead calls i
one-earlier calls i call here none a = record {
  q = a.q;
  to = a.to;
  behind = (let h = a.behind in omega arith);
  has = a.has;
  untimed = λ k other le lt at. elim (cases_lt i k) [
    | inl less ↦ a.untimed k other (omega arith) lt at
    | inr more ↦ (let same : k ≡ i = omega arith in
        let it : call ≡ other = one-call (slice_get calls i) call other here (rw same at at) in
        ap (λ (c : KeptCall). c.times) (sym it) ∙ none)
  ];
}

ahead-of : (calls : List KeptCall) (last : Times) (steps i : ℕ) → HasTimes calls (length calls - 1) last → i + steps + 1 ≡ length calls → Ahead calls i
ahead-of calls last zero i has e = record {
  q = length calls - 1;
  to = last;
  behind = omega arith;
  has = has;
  untimed = λ k call lo hi at. absurd (omega arith);
}
ahead-of calls last (suc steps) i has e =
    let at = slice_at calls i (omega arith) in
    elim (times_of at.0.times) [
      | inl own ↦ record {
        q = i;
        to = own.0;
        behind = omega arith;
        has = (at.0, at.1, own.1);
        untimed = λ k call lo hi here. absurd (omega arith);
      }
      | inr none ↦ one-earlier calls i at.0 at.1 none (ahead-of calls last steps (suc i) has (omega arith))
    ]

-- a call at an end that has no times breaks a rule
some-later : (a b c : Option Cause) → (x : Cause) → b ≡ Some x → or_then a (or_then b c) ≡ None → ⊥
some-later None b c x e none = let found : or_then b c ≡ Some x = rw e refl in cc (found, none)
some-later (Some y) b c x e none = cc none

untimed-end : (calls : List KeptCall) (i : ℕ) (call : KeptCall) → slice_get calls i ≡ Some call → call.times ≡ None → is_end calls i ≡ true → call_cause calls i ≡ None → ⊥
unfolding call_cause no_time_broken
untimed-end calls i call here none at_end hold =
    let cause_none : cause_of_call calls i call ≡ None = rw here at hold in
    some-later (repeated_broken (previous_sequence calls i) call.sequence) (no_time_broken (is_end calls i) call.times)
    (falls_broken (last_departure (take i calls)) call.times) cause.NoTime (rw (none, at_end) refl) cause_none

-- the first and the last call have times
end-times : (calls : List KeptCall) (i : ℕ) → HoldTogether calls → i < length calls → is_end calls i ≡ true → (own : Times) × HasTimes calls i own
end-times calls i hold lt at_end =
    let at = slice_at calls i lt in
    elim (times_of at.0.times) [
      | inl own ↦ (own.0, (at.0, at.1, own.1))
      | inr none ↦ absurd (untimed-end calls i at.0 at.1 none at_end (hold i lt))
    ]

same-read : {X : Type 0} (xs ys : List X) (i : ℕ) (x d : X) → slice_get xs i ≡ Some x → slice_get ys i ≡ Some x → slice_index_or xs i d ≡ slice_index_or ys i d
same-read xs ys i x d a b = get_or_from_slice_get xs i x d a ∙ sym (get_or_from_slice_get ys i x d b)

-- a call that has times is not one without
not-timed : (calls : List KeptCall) (i : ℕ) (call : KeptCall) → slice_get calls i ≡ Some call → call.times ≡ None → (q : ℕ) (own : Times) → HasTimes calls q own → q ≡ i → ⊥
not-timed calls i call here none q own has same =
    let it : call ≡ has.0 = one-call (slice_get calls i) call has.0 here (rw same at has.1) in
    let timed : call.times ≡ Some own = rw it has.2 in
    let no : None ≡ Some own = sym none ∙ timed in cc no

-- a call without times has one that has times behind it
behind-below : (calls : List KeptCall) (first : Times) (k : ℕ) (call : KeptCall) → slice_get calls k ≡ Some call → call.times ≡ None → HasTimes calls 0 first → k < length calls → Behind calls k
behind-below calls first zero call here none has lt = absurd (not-timed calls 0 call here none 0 first has refl)
behind-below calls first (suc k) call here none has lt = behind-of calls first k has (omega arith)

first-end : (calls : List KeptCall) → is_end calls 0 ≡ true
first-end calls = refl

last-end : (calls : List KeptCall) → 0 < length calls → is_end calls (length calls - 1) ≡ true
last-end calls some = let e : length calls - 1 + 1 ≡ length calls = omega arith in grind (arith, nat_tests)

-- a call without times stands between two that have times
between-of : (calls : List KeptCall) (i : ℕ) (call : KeptCall) → slice_get calls i ≡ Some call → call.times ≡ None → Behind calls i → Ahead calls i
    → (p : ℕ) × (q : ℕ) × (from : Times) × (to : Times) × IsBetween calls p i q from to
between-of calls i call here none b a = (
  b.p,
  a.q,
  b.from,
  a.to,
  record {
    behind = b.before;
    ahead = elim (cases_lt i a.q) [ inl less ↦ less | inr more ↦ absurd (not-timed calls i call here none a.q a.to a.has (let h = a.behind in omega arith)) ];
    departs = b.has;
    arrives = a.has;
    untimed = λ k other lo hi at. elim (cases_lt k i) [ inl less ↦ b.untimed k other lo less at | inr more ↦ a.untimed k other more hi at ];
  },
)

-- calls that keep the rules are filled in one way
pub filled_unique : (calls : List KeptCall) (filled other : List Call) → HoldTogether calls → IsFilled calls filled → IsFilled calls other → filled ≡ other
filled_unique calls filled other hold a b =
    same_lists filled other (a.long ∙ sym b.long) (λ k d lt.
    let within : k < length calls = omega (arith, a.long) in
    let at = slice_at calls k within in
    elim (times_of at.0.times) [
      | inl own ↦ same-read filled other k _ d (a.given k at.0 own.0 at.1 own.1) (b.given k at.0 own.0 at.1 own.1)
      | inr none ↦ (let first = end-times calls 0 hold (omega arith) (first-end calls) in
          let last = end-times calls (length calls - 1) hold (omega arith) (last-end calls (omega arith)) in
          let back = behind-below calls first.0 k at.0 at.1 none first.1 within in
          let on = ahead-of calls last.0 (length calls - 1 - k) k last.1 (omega arith) in
          let mid = between-of calls k at.0 at.1 none back on in
          same-read filled other k _ d (a.between mid.0 k mid.1 at.0 mid.2 mid.3 mid.4 at.1) (b.between mid.0 k mid.1 at.0 mid.2 mid.3 mid.4 at.1))
    ])
