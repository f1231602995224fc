-- What the rules say of a call that breaks none.
use Rattle.std.proofs.Common.{◌≡◌, ◌∙◌, ℕ, ◌+◌, ◌≤◌, List, take, length, Option, Some, None, Bool, true, false, refl, sym, arith}
use Rattle.std.specs.Prelude.{slice_get, nat_lt, ◌==◌, ◌||◌, if◌then◌else◌}
use Rattle.std.proofs.lemmas.Bool.Decides.{nat_tests}
use Rattle.refusals.specs.Refusal.{or_then}
use Rattle.move_model.specs.declared.refusal.Cause.{Cause}
use Rattle.move_model.specs.declared.refusal.Cause.TheVariants as cause
use Rattle.trip_calls.specs.declared.kept.KeptCall.{KeptCall}
use Rattle.trip_calls.specs.declared.kept.Times.{Times}
use Rattle.trip_calls.specs.CallRules.{call_cause, no_time_broken, falls_broken, repeated_broken, previous_sequence, is_end, last_departure}
use Rattle.trip_calls.proofs.FaultLemmas.{cause-here}

both-none : (a b : Option Cause) → or_then a b ≡ None → (a ≡ None) × (b ≡ None)
both-none None b e = (refl, e)
both-none (Some cause) b e = cc e

-- no second falls from the nearest earlier departure to a call's arrival and its departure
pub record Rises (earlier : Option ℕ) (own : Times) : Type 0 where
  pub stays : own.arr ≤ own.dep
  pub later : (departs : ℕ) → earlier ≡ Some departs → departs ≤ own.arr

le-of : (m n : ℕ) → nat_lt n m ≡ false → m ≤ n
le-of m n e = grind (arith, nat_tests)

no-cause : (b : Bool) (x : Cause) → (if b then Some x else None) ≡ None → b ≡ false
no-cause true x e = cc e
no-cause false x e = refl

neither : (a b : Bool) → (a || b) ≡ false → (a ≡ false) × (b ≡ false)
neither true b e = cc e
neither false b e = (refl, e)

rises : (earlier : Option ℕ) (own : Times) → falls_broken earlier (Some own) ≡ None → Rises earlier own
unfolding falls_broken
rises None own e = record { stays = le-of own.arr own.dep (no-cause _ cause.TimeFalls e); later = λ departs none. cc none }
rises (Some before) own e =
    let each = neither (nat_lt own.dep own.arr) (nat_lt own.arr before) (no-cause _ cause.TimeFalls e) in
    record { stays = le-of own.arr own.dep each.0; later = λ departs some. let same : before ≡ departs = cc some in omega (arith, le-of before own.arr each.1) }

timed-end : (end : Bool) → no_time_broken end None ≡ None → end ≡ false
unfolding no_time_broken
timed-end end e = no-cause end cause.NoTime e

apart : (m n : ℕ) → (m == n) ≡ false → m ≡ n → ⊥
apart m n e same = grind (arith, nat_tests)

-- the parts of a call that breaks no rule
pub parts : (calls : List KeptCall) (i : ℕ) (call : KeptCall) → slice_get calls i ≡ Some call → call_cause calls i ≡ None
    → (no_time_broken (is_end calls i) call.times ≡ None) × (falls_broken (last_departure (take i calls)) call.times ≡ None)
parts calls i call here holds =
    let e = sym (cause-here calls i call here) ∙ holds in
    both-none _ _ (both-none (repeated_broken (previous_sequence calls i) call.sequence) _ e).1

pub own-rises : (calls : List KeptCall) (i : ℕ) (call : KeptCall) (own : Times) → slice_get calls i ≡ Some call → call_cause calls i ≡ None → call.times ≡ Some own
    → Rises (last_departure (take i calls)) own
own-rises calls i call own here holds is = rises _ own (rw is at (parts calls i call here holds).1)

pub not-end : (calls : List KeptCall) (i : ℕ) (call : KeptCall) → slice_get calls i ≡ Some call → call_cause calls i ≡ None → call.times ≡ None
    → ((i ≡ 0) → ⊥) × ((i + 1 ≡ length calls) → ⊥)
not-end calls i call here holds is =
    let e = timed-end (is_end calls i) (rw is at (parts calls i call here holds).0) in
    let each = neither (i == 0) (i + 1 == length calls) e in
    (λ first. absurd (apart i 0 each.0 first), λ last. absurd (apart (i + 1) (length calls) each.1 last))
