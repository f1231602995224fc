-- Calls that seconds pass evenly, one more at the end.
use Rattle.std.proofs.Common.{◌≡◌, ◌∙◌, ℕ, suc, ◌+◌, ◌-◌, ◌<◌, ◌≤◌, List, [], ◌∷◌, ◌++◌, take, drop, length, get_or, map, None, false, refl, sym, ap, arith}
use Rattle.std.proofs.lemmas.List.{take_more, get_or-drop, length-take-le, length-drop}
use Rattle.move_model.specs.declared.network.Call.{Call}
use Rattle.move_model.specs.declared.network.StopNo.{StopNo}
use Rattle.trip_calls.specs.declared.kept.KeptCall.{KeptCall}
use Rattle.trip_calls.specs.Filled.{with_times, second_between, passed}

-- a call that no list holds
abbrev pub no_call : KeptCall
no_call = record { sequence = 0; row = 0; stop = record { 0 = 0 }; times = None; board = false; alight = false }

pub passed-none : (from to step steps : ℕ) → passed from to step steps [] ≡ []
unfolding passed
passed-none from to step steps = refl

pub passed-push : (calls : List KeptCall) (call : KeptCall) (from to step steps : ℕ)
    → passed from to step steps (calls ++ call ∷ [])
    ≡ passed from to step steps calls ++ with_times call (second_between from to (step + length calls) steps) (second_between from to (step + length calls) steps) ∷ []
unfolding passed
passed-push [] call from to step steps = let e : step + 0 ≡ step = omega arith in rw e refl
passed-push (first ∷ calls) call from to step steps =
    let e : step + suc (length calls) ≡ step + 1 + length calls = omega arith in
    rw e (ap (λ rest. with_times first (second_between from to step steps) (second_between from to step steps) ∷ rest) (passed-push calls call from to (step + 1) steps))

pub passed-more : (calls : List KeptCall) (begun at from to steps : ℕ) (call : KeptCall) → begun ≤ at → at < length calls → call ≡ get_or calls at call
    → passed from to 1 steps (take (at + 1 - begun) (drop begun calls))
    ≡ passed from to 1 steps (take (at - begun) (drop begun calls)) ++ with_times call (second_between from to (at + 1 - begun) steps) (second_between from to (at + 1 - begun) steps) ∷ []
passed-more calls begun at from to steps call later lt here =
    let next : at + 1 - begun ≡ at - begun + 1 = omega arith in
    let long : length (drop begun calls) ≡ length calls - begun = length-drop begun calls in
    let inside : at - begun < length (drop begun calls) = omega arith in
    let back : begun + (at - begun) ≡ at = omega arith in
    let item : get_or (drop begun calls) (at - begun) call ≡ call = get_or-drop begun calls (at - begun) call ∙ rw back (sym here) in
    let n : length (take (at - begun) (drop begun calls)) ≡ at - begun = length-take-le (at - begun) (drop begun calls) (omega arith) in
    let step : 1 + length (take (at - begun) (drop begun calls)) ≡ at - begun + 1 = omega arith in
    rw (next, take_more (drop begun calls) (at - begun) call inside, item) (passed-push (take (at - begun) (drop begun calls)) call from to 1 steps
    ∙ ap (λ (s : ℕ). passed from to 1 steps (take (at - begun) (drop begun calls)) ++ with_times call (second_between from to s steps) (second_between from to s steps) ∷ []) step)

pub stops-passed : (calls : List KeptCall) (from to step steps : ℕ) → map (λ (call : Call). call.stop) (passed from to step steps calls) ≡ map (λ (call : KeptCall). call.stop) calls
unfolding passed
stops-passed [] from to step steps = refl
stops-passed (call ∷ calls) from to step steps = ap (λ (rest : List StopNo). call.stop ∷ rest) (stops-passed calls from to (step + 1) steps)

pub length-passed : (calls : List KeptCall) (from to step steps : ℕ) → length (passed from to step steps calls) ≡ length calls
unfolding passed
length-passed [] from to step steps = refl
length-passed (call ∷ calls) from to step steps = ap suc (length-passed calls from to (step + 1) steps)
