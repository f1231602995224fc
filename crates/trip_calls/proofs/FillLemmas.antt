-- One call more of a trip whose times are filled in.
use Rattle.std.proofs.Common.{◌≡◌, ◌∙◌, ℕ, ◌+◌, ◌-◌, ◌<◌, ◌≤◌, List, [], ◌∷◌, ◌++◌, take, drop, length, map, get_or, Option, Some, None, refl, sym, ap, inl, inr, arith}
use Rattle.std.specs.Prelude.{slice_get, IfSome}
use Rattle.std.proofs.lemmas.Bool.{cases_lt, cases_eq}
use Rattle.std.proofs.lemmas.List.{length-append, length-take-le, length-drop, map-append, take_more, take_all, drop-take, take-append-drop, take-take}
use Rattle.std.proofs.lemmas.Option.{get_or_from_slice_get, slice_get-get_or}
use Rattle.move_model.specs.declared.network.Call.{Call}
use Rattle.move_model.specs.declared.network.StopNo.{StopNo}
use Rattle.trip_calls.specs.declared.kept.KeptCall.{KeptCall}
use Rattle.trip_calls.specs.declared.kept.Times.{Times}
use Rattle.trip_calls.specs.CallRules.{call_cause, last_departure, HoldTogether}
use Rattle.trip_calls.specs.Filled.{with_times, gap, IsTimely, IsInTime}
use Rattle.trip_calls.proofs.FaultLemmas.{departure-more}
use Rattle.trip_calls.proofs.HoldLemmas.{own-rises, not-end}
use Rattle.trip_calls.proofs.PassedLemmas.{no_call, stops-passed, length-passed}
use Rattle.trip_calls.proofs.TimelyLemmas.{timely-none, timely-push, timely-passed}

abbrev stop_of : KeptCall → StopNo
stop_of call = call.stop

abbrev stop_in : Call → StopNo
stop_in call = call.stop

take-add : {X : Type 0} (n m : ℕ) (xs : List X) → take n xs ++ take m (drop n xs) ≡ take (n + m) xs
take-add n m xs = rw (take-take n (n + m) xs (omega arith), drop-take n m xs) at (take-append-drop n (take (n + m) xs))

-- what is filled of the calls up to a place: all up to the last one that has times, which departs at this second
pub record Progress (calls : List KeptCall) (filled : List Call) (place departs : ℕ) : Type 0 where
  pub stops : map (λ (call : Call). call.stop) filled ≡ map (λ (call : KeptCall). call.stop) (take (length filled) calls)
  pub timely : IsTimely filled departs
  pub ahead : length filled ≤ place
  pub first : place ≡ 0 → departs ≡ 0
  pub earlier : 0 < place → last_departure (take place calls) ≡ Some departs
  pub untimed : (k : ℕ) (call : KeptCall) → length filled ≤ k → k < place → slice_get calls k ≡ Some call → call.times ≡ None

pub progress-none : (calls : List KeptCall) → Progress calls [] 0 0
progress-none calls = record {
  stops = refl;
  timely = timely-none 0;
  ahead = omega arith;
  first = λ z. refl;
  earlier = λ lt. absurd (omega arith);
  untimed = λ k call a b here. absurd (omega arith);
}

-- the nearest earlier departure is no later than the arrival of a call that has times
pub later : (calls : List KeptCall) (filled : List Call) (place departs : ℕ) (call : KeptCall) (own : Times) → Progress calls filled place departs
    → slice_get calls place ≡ Some call → call_cause calls place ≡ None → call.times ≡ Some own → departs ≤ own.arr
later calls filled place departs call own p here holds is =
    let r = own-rises calls place call own here holds is in
    elim (cases_lt 0 place) [ inl some ↦ r.later departs (p.earlier some) | inr none ↦ omega (arith, p.first (omega arith)) ]

limit-of : (times : Option Times) (own : Times) → times ≡ Some own → IfSome times (λ (t : Times). (t.arr ≤ 3599999) × (t.dep ≤ 3599999)) → (own.arr ≤ 3599999) × (own.dep ≤ 3599999)
limit-of None own is h = cc is
limit-of (Some t) own is h = let same : t ≡ own = cc is in rw same at h

pub progress-timed : (calls : List KeptCall) (filled new : List Call) (place departs : ℕ) (call : KeptCall) (own : Times) → Progress calls filled place departs
    → place < length calls → slice_get calls place ≡ Some call → call_cause calls place ≡ None → call.times ≡ Some own → IsInTime call
    → new ≡ (filled ++ gap calls (length filled) place departs own.arr) ++ with_times call own.arr own.dep ∷ []
    → Progress calls new (place + 1) own.dep
progress-timed calls filled new place departs call own p lt here holds is limit grows =
    let n : ℕ = length filled in
    let ahead : length filled ≤ place = p.ahead in
    let r = own-rises calls place call own here holds is in
    let rises : departs ≤ own.arr = later calls filled place departs call own p here holds is in
    let limits = limit-of call.times own is limit in
    let inner : List KeptCall = take (place - length filled) (drop (length filled) calls) in
    let inner_len : length (take (place - length filled) (drop (length filled) calls)) ≡ place - length filled =
    length-take-le (place - length filled) (drop (length filled) calls) (omega (arith, length-drop (length filled) calls)) in
    let passes = timely-passed (take (place - length filled) (drop (length filled) calls)) filled departs departs own.arr 1 (place + 1 - length filled) p.timely rises limits.0 (omega arith) (omega arith) rises in
    let pushed = timely-push _ passes.0 (with_times call own.arr own.dep) passes.1 passes.2 r.stays limits.1 in
    let gap_len = length-passed (take (place - length filled) (drop (length filled) calls)) departs own.arr 1 (place + 1 - length filled) in
    let long : length new ≡ place + 1 =
    omega (
      arith,
      ap length grows,
      length-append (filled ++ gap calls (length filled) place departs own.arr) (with_times call own.arr own.dep ∷ []),
      length-append filled (gap calls (length filled) place departs own.arr),
      gap_len,
      inner_len,
    ) in
    let up : length filled + (place - length filled) ≡ place = omega arith in
    let front : take (length filled) calls ++ take (place - length filled) (drop (length filled) calls) ≡ take place calls = rw up at (take-add (length filled) (place - length filled) calls) in
    let whole : take (place + 1) calls ≡ take place calls ++ call ∷ [] = take_more calls place call lt ∙ ap (λ (c : KeptCall). take place calls ++ c ∷ []) (get_or_from_slice_get calls place call call here) in
    record {
      stops =
          ap (map stop_in) grows ∙ map-append stop_in (filled ++ gap calls (length filled) place departs own.arr) (with_times call own.arr own.dep ∷ [])
          ∙ ap (λ (front : List StopNo). front ++ call.stop ∷ []) (
          map-append stop_in filled (gap calls (length filled) place departs own.arr)
          ∙ ap (λ (xs : List StopNo). xs ++ map stop_in (gap calls (length filled) place departs own.arr)) p.stops
          ∙ ap (λ (ys : List StopNo). map stop_of (take (length filled) calls) ++ ys) (stops-passed (take (place - length filled) (drop (length filled) calls)) departs own.arr 1 (place + 1 - length filled))
          ∙ sym (map-append stop_of (take (length filled) calls) (take (place - length filled) (drop (length filled) calls)))
          ∙ ap (map stop_of) front)
          ∙ sym (map-append stop_of (take place calls) (call ∷ []))
          ∙ ap (map stop_of) (sym whole ∙ ap (λ (k : ℕ). take k calls) (sym long));
      timely = rw grows pushed;
      ahead = omega (arith, long);
      first = λ z. absurd (omega arith);
      earlier = λ lt'. departure-more calls place call lt here ∙ rw is refl;
      untimed = λ k other a b there. absurd (omega (arith, long));
    }

pub progress-untimed : (calls : List KeptCall) (filled : List Call) (place departs : ℕ) (call : KeptCall) → Progress calls filled place departs
    → place < length calls → slice_get calls place ≡ Some call → call_cause calls place ≡ None → call.times ≡ None → Progress calls filled (place + 1) departs
progress-untimed calls filled place departs call p lt here holds is =
    let ends = not-end calls place call here holds is in
    record {
      stops = p.stops;
      timely = p.timely;
      ahead = omega (arith, p.ahead);
      first = λ z. absurd (omega arith);
      earlier = λ lt'. departure-more calls place call lt here ∙ rw is (p.earlier (elim (cases_lt 0 place) [ inl some ↦ some | inr none ↦ absurd (ends.0 (omega arith)) ]));
      untimed = λ k other a b there. elim (cases_eq k place) [
        | inl same ↦ let e : slice_get calls place ≡ Some other = rw same at there in let s : call ≡ other = cc (e, here) in rw (← s) is
        | inr apart ↦ p.untimed k other a (omega arith) there
      ];
    }

-- at the end all calls are filled
pub progress-all : (calls : List KeptCall) (filled : List Call) (place departs : ℕ) → Progress calls filled place departs → length calls ≤ place → place ≤ length calls
    → HoldTogether calls → map (λ (call : Call). call.stop) filled ≡ map (λ (call : KeptCall). call.stop) calls
progress-all calls filled place departs p end within hold = elim (cases_lt (length filled) (length calls)) [
  | inl short ↦
      let last : length calls - 1 < length calls = omega arith in
      let here = slice_get-get_or calls (length calls - 1) no_call last in
      let none = p.untimed (length calls - 1) (get_or calls (length calls - 1) no_call) (omega arith) (omega arith) here in
      absurd ((not-end calls (length calls - 1) (get_or calls (length calls - 1) no_call) here (hold (length calls - 1) last) none).1 (omega arith))
  | inr all ↦ p.stops ∙ ap (map (λ (call : KeptCall). call.stop)) (take_all (length filled) calls all)
]

pub none-of : {X : Type 0} (o : Option X) → ((x : X) → o ≡ Some x → ⊥) → o ≡ None
none-of None f = refl
none-of (Some x) f = absurd (f x refl)
