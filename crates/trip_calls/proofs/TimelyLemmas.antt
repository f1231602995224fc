-- Lists of calls whose seconds never fall.
use Rattle.std.proofs.Common.{◌≡◌, ℕ, ◌+◌, ◌-◌, ◌*◌, ◌/◌, ◌<◌, ◌≤◌, List, [], ◌∷◌, ◌++◌, length, inl, inr, arith}
use Rattle.std.proofs.Math.Nat.{div-le_of_le-mul, div-mul-le_self, mul-le-mul_left, mul_comm}
use Rattle.std.proofs.lemmas.Bool.{cases_lt}
use Rattle.std.proofs.lemmas.Nat.{le-div}
use Rattle.std.proofs.lemmas.List.{get_or_append_left, get_or_push, length_push, append_assoc, append-nil}
use Rattle.std.proofs.lemmas.List.Elements.{All-push}
use Rattle.move_model.specs.declared.network.Call.{Call}
use Rattle.trip_calls.specs.declared.kept.KeptCall.{KeptCall}
use Rattle.trip_calls.specs.Filled.{with_times, second_between, passed, IsTimely}

pub timely-none : (second : ℕ) → IsTimely [] second
timely-none second = record {
  stays = λ k d lt. absurd (omega arith);
  goes_on = λ k d lt. absurd (omega arith);
  in_time = λ k d lt. absurd (omega arith);
  behind = λ k d lt. absurd (omega arith);
}

pub timely-push : (calls : List Call) (departs : ℕ) (call : Call) → IsTimely calls departs → departs ≤ call.arr → call.arr ≤ call.dep → call.dep ≤ 3599999
    → IsTimely (calls ++ call ∷ []) call.dep
timely-push calls departs call t later stays limit = record {
  stays = All-push (λ c. c.arr ≤ c.dep) calls call t.stays stays;
  goes_on = λ k d lt. elim (cases_lt (k + 1) (length calls)) [
    | inl inside ↦ rw (get_or_append_left calls (call ∷ []) d k (omega arith), get_or_append_left calls (call ∷ []) d (k + 1) inside) (t.goes_on k d inside)
    | inr last ↦
        let n = length_push calls call in
        let at : length calls ≡ k + 1 = omega arith in
        rw (get_or_append_left calls (call ∷ []) d k (omega arith), get_or_push calls call d (k + 1) at) (omega (arith, t.behind k d (omega arith)))
  ];
  in_time = All-push (λ c. c.dep ≤ 3599999) calls call t.in_time limit;
  behind = All-push (λ c. c.dep ≤ call.dep) calls call (λ k d lt. omega (arith, t.behind k d lt)) (omega arith);
}

pub between-ends : (from to step steps : ℕ) → from ≤ to → step ≤ steps → 0 < steps → second_between from to step steps ≤ to
between-ends from to step steps rises within some =
    let m : (to - from) * step ≤ (to - from) * steps = mul-le-mul_left (to - from) within in
    let q : (to - from) * step / steps ≤ to - from = div-le_of_le-mul steps (omega (arith, m, mul_comm steps (to - from))) in
    omega arith

pub between-more : (from to step steps : ℕ) → 0 < steps → second_between from to step steps ≤ second_between from to (step + 1) steps
between-more from to step steps some =
    let m : (to - from) * step / steps ≤ (to - from) * (step + 1) / steps = le-div ((to - from) * step / steps) ((to - from) * (step + 1)) steps some (omega (arith, div-mul-le_self ((to - from) * step) steps, mul-le-mul_left (to - from) (let n : step ≤ step + 1 = omega arith in n))) in
    omega arith

-- calls that seconds pass evenly, behind timely ones
pub timely-passed : (calls : List KeptCall) (filled : List Call) (departs from to step steps : ℕ) → IsTimely filled departs → from ≤ to → to ≤ 3599999
    → departs ≤ second_between from to step steps → step + length calls ≤ steps → departs ≤ to
    → (last : ℕ) × IsTimely (filled ++ passed from to step steps calls) last × (last ≤ to)
unfolding passed
timely-passed [] filled departs from to step steps t rises limit later within ends = (departs, rw append-nil t, ends)
timely-passed (call ∷ calls) filled departs from to step steps t rises limit later within ends =
    let second : ℕ = second_between from to step steps in
    let le : second_between from to step steps ≤ to = between-ends from to step steps rises (omega arith) (omega arith) in
    let pushed = timely-push filled departs (with_times call (second_between from to step steps) (second_between from to step steps)) t later (omega arith) (omega arith) in
    let rest = timely-passed calls (filled ++ with_times call (second_between from to step steps) (second_between from to step steps) ∷ []) (second_between from to step steps) from to (step + 1) steps
    pushed rises limit (between-more from to step steps (omega arith)) (omega arith) le in
    (rest.0, rw (append_assoc filled (with_times call (second_between from to step steps) (second_between from to step steps) ∷ []) (passed from to (step + 1) steps calls)) at rest.1, rest.2)
