-- The calls of a trip that are filled in have the seconds that they should have.
use Rattle.std.proofs.Common.{◌≡◌, ◌∙◌, ℕ, zero, suc, ◌+◌, ◌-◌, ◌<◌, ◌≤◌, List, [], ◌∷◌, ◌++◌, take, drop, length, Some, None, refl, sym, ap, inl, inr, arith}
use Rattle.std.specs.Prelude.{slice_get}
use Rattle.std.proofs.lemmas.Bool.{cases_lt, cases_eq}
use Rattle.std.proofs.lemmas.List.{length-append, length-take-le, length-drop}
use Rattle.std.proofs.lemmas.Option.{slice_get_within}
use Rattle.move_model.specs.declared.network.Call.{Call}
use Rattle.trip_calls.specs.declared.kept.KeptCall.{KeptCall}
use Rattle.trip_calls.specs.declared.kept.Times.{Times}
use Rattle.trip_calls.specs.Filled.{with_times, passed, gap, second_between, HasTimes, AllUntimed, IsBetween, IsFilled}
use Rattle.trip_calls.proofs.PassedLemmas.{length-passed}

slice-take : {X : Type 0} (m j : ℕ) (xs : List X) → j < m → slice_get (take m xs) j ≡ slice_get xs j
slice-take zero j xs lt = absurd (omega arith)
slice-take (suc m) j [] lt = refl
slice-take (suc m) zero (x ∷ xs) lt = refl
slice-take (suc m) (suc j) (x ∷ xs) lt = slice-take m j xs (omega arith)

slice-drop : {X : Type 0} (n j : ℕ) (xs : List X) → slice_get (drop n xs) j ≡ slice_get xs (n + j)
slice-drop zero j xs = let e : 0 + j ≡ j = omega arith in rw e refl
slice-drop (suc n) j [] = refl
slice-drop (suc n) j (x ∷ xs) = let e : suc n + j ≡ suc (n + j) = omega arith in rw e (slice-drop n j xs)

slice-left : {X : Type 0} (xs ys : List X) (i : ℕ) → i < length xs → slice_get (xs ++ ys) i ≡ slice_get xs i
slice-left [] ys i lt = absurd (omega arith)
slice-left (x ∷ xs) ys zero lt = refl
slice-left (x ∷ xs) ys (suc i) lt = slice-left xs ys i (omega arith)

slice-right : {X : Type 0} (xs ys : List X) (j : ℕ) → slice_get (xs ++ ys) (length xs + j) ≡ slice_get ys j
slice-right [] ys j = let e : 0 + j ≡ j = omega arith in rw e refl
slice-right (x ∷ xs) ys j = let e : suc (length xs) + j ≡ suc (length xs + j) = omega arith in rw e (slice-right xs ys j)

second-at : (calls : List KeptCall) (from to step steps j : ℕ) (call : KeptCall) → slice_get calls j ≡ Some call
    → slice_get (passed from to step steps calls) j ≡ Some (with_times call (second_between from to (step + j) steps) (second_between from to (step + j) steps))
unfolding passed
second-at [] from to step steps j call here = cc here
second-at (first ∷ calls) from to step steps zero call here =
    let e : step + 0 ≡ step = omega arith in let same : first ≡ call = cc here in rw (e, same) refl
second-at (first ∷ calls) from to step steps (suc j) call here =
    let e : step + suc j ≡ step + 1 + j = omega arith in rw e (second-at calls from to (step + 1) steps j call here)

-- a call of the gap before a place
pub gap-at : (calls : List KeptCall) (begun place departs arrives i : ℕ) (call : KeptCall) → begun ≤ i → i < place → slice_get calls i ≡ Some call
    → slice_get (gap calls begun place departs arrives) (i - begun)
    ≡ Some (with_times call (second_between departs arrives (i + 1 - begun) (place + 1 - begun)) (second_between departs arrives (i + 1 - begun) (place + 1 - begun)))
gap-at calls begun place departs arrives i call later lt here =
    let up : begun + (i - begun) ≡ i = omega arith in
    let turn : 1 + (i - begun) ≡ i + 1 - begun = omega arith in
    let inner : slice_get (take (place - begun) (drop begun calls)) (i - begun) ≡ Some call =
    slice-take (place - begun) (i - begun) (drop begun calls) (omega arith) ∙ slice-drop begun (i - begun) calls ∙ ap (slice_get calls) up ∙ here in
    rw turn at (second-at (take (place - begun) (drop begun calls)) departs arrives 1 (place + 1 - begun) (i - begun) call inner)

-- what is filled of the calls is as it should be, and ends with a call that has times and departs at this second
pub record Exact (calls : List KeptCall) (filled : List Call) (place departs : ℕ) : Type 0 where
  pub within : length filled ≤ place
  pub given : (i : ℕ) (call : KeptCall) (own : Times) → i < length filled → slice_get calls i ≡ Some call → call.times ≡ Some own
      → slice_get filled i ≡ Some (with_times call own.arr own.dep)
  pub between : (p i q : ℕ) (call : KeptCall) (from to : Times) → i < length filled → IsBetween calls p i q from to → slice_get calls i ≡ Some call
      → slice_get filled i ≡ Some (with_times call (second_between from.dep to.arr (i - p) (q - p)) (second_between from.dep to.arr (i - p) (q - p)))
  pub last : 0 < length filled → (own : Times) × HasTimes calls (length filled - 1) own × (own.dep ≡ departs)
  pub untimed : (k : ℕ) (call : KeptCall) → length filled ≤ k → k < place → slice_get calls k ≡ Some call → call.times ≡ None

pub exact-none : (calls : List KeptCall) → Exact calls [] 0 0
exact-none calls = record {
  within = omega arith;
  given = λ i call own lt here is. absurd (omega arith);
  between = λ p i q call from to lt b here. absurd (omega arith);
  last = λ lt. absurd (omega arith);
  untimed = λ k call a b here. absurd (omega arith);
}

same-call : (calls : List KeptCall) (i : ℕ) (a b : KeptCall) → slice_get calls i ≡ Some a → slice_get calls i ≡ Some b → a ≡ b
same-call calls i a b p q = cc (p, q)

no-times : (calls : List KeptCall) (i : ℕ) (own : Times) → HasTimes calls i own → ((call : KeptCall) → slice_get calls i ≡ Some call → call.times ≡ None) → ⊥
no-times calls i own (call, here, is) none = let e = none call here in cc (e, is)

-- a place that has times is not one between two places of which none has
not-inside : (calls : List KeptCall) (p i q : ℕ) (own : Times) → HasTimes calls i own → AllUntimed calls p q → p < i → i < q → ⊥
not-inside calls p i q own timed none behind ahead = no-times calls i own timed (λ call here. none i call behind ahead here)

same-times : (calls : List KeptCall) (i j : ℕ) (a b : Times) → HasTimes calls i a → HasTimes calls j b → i ≡ j → a ≡ b
same-times calls i j a b (x, here, is) (y, there, are) same =
    let e : slice_get calls i ≡ Some y = rw same there in let s : x ≡ y = cc (here, e) in let t : y.times ≡ Some a = rw s at is in cc (t, are)

-- the nearest calls around a call of the gap are its two ends
pub ends : (calls : List KeptCall) (filled : List Call) (place departs : ℕ) (own : Times) (p i q : ℕ) (from to : Times) → Exact calls filled place departs
    → HasTimes calls place own → length filled ≤ i → i < place → IsBetween calls p i q from to
    → (p + 1 ≡ length filled) × (q ≡ place) × (from.dep ≡ departs) × (to ≡ own)
ends calls filled place departs own p i q from to x timed later lt b =
    let behind = b.behind in
    let ahead = b.ahead in
    let low : p < length filled = elim (cases_lt p (length filled)) [
      | inl less ↦ less
      | inr more ↦ absurd (no-times calls p from b.departs (λ call here. x.untimed p call more (omega arith) here))
    ] in
    let last = x.last (omega arith) in
    let high : length filled ≤ p + 1 = elim (cases_lt p (length filled - 1)) [
      | inl less ↦ absurd (not-inside calls p (length filled - 1) q last.0 last.1 b.untimed less (omega arith))
      | inr more ↦ omega (arith, more)
    ] in
    let front : p ≡ length filled - 1 = omega arith in
    let far : place ≤ q = elim (cases_lt q place) [
      | inl less ↦ absurd (no-times calls q to b.arrives (λ call here. x.untimed q call (omega arith) less here))
      | inr more ↦ more
    ] in
    let near : q ≤ place = elim (cases_lt place q) [
      | inl less ↦ absurd (not-inside calls p place q own timed b.untimed (omega arith) less)
      | inr more ↦ more
    ] in
    let back : q ≡ place = omega arith in
    let one : from ≡ last.0 = same-times calls p (length filled - 1) from last.0 b.departs last.1 front in
    (omega arith, back, ap (λ (t : Times). t.dep) one ∙ last.2, same-times calls q place to own b.arrives timed back)

-- a call that has times, behind the gap that is filled in
pub exact-timed : (calls : List KeptCall) (filled new : List Call) (place departs : ℕ) (call : KeptCall) (own : Times) → Exact calls filled place departs
    → place < length calls → slice_get calls place ≡ Some call → call.times ≡ Some own
    → new ≡ (filled ++ gap calls (length filled) place departs own.arr) ++ with_times call own.arr own.dep ∷ []
    → Exact calls new (place + 1) own.dep
exact-timed calls filled new place departs call own x lt here is grows =
    let n : ℕ = length filled in
    let within = x.within in
    let middle : List Call = gap calls (length filled) place departs own.arr in
    let middle_len : length (gap calls (length filled) place departs own.arr) ≡ place - length filled =
    length-passed (take (place - length filled) (drop (length filled) calls)) departs own.arr 1 (place + 1 - length filled)
    ∙ length-take-le (place - length filled) (drop (length filled) calls) (omega (arith, length-drop (length filled) calls)) in
    let front_len : length (filled ++ gap calls (length filled) place departs own.arr) ≡ place =
    omega (arith, length-append filled (gap calls (length filled) place departs own.arr), middle_len) in
    let long : length new ≡ place + 1 =
    omega (arith, ap length grows, length-append (filled ++ gap calls (length filled) place departs own.arr) (with_times call own.arr own.dep ∷ []), front_len) in
    let old : (i : ℕ) → i < length filled → slice_get new i ≡ slice_get filled i = λ i less.
    rw grows (slice-left (filled ++ gap calls (length filled) place departs own.arr) (with_times call own.arr own.dep ∷ []) i (omega (arith, front_len))
    ∙ slice-left filled (gap calls (length filled) place departs own.arr) i less) in
    let mid : (i : ℕ) → length filled ≤ i → i < place → slice_get new i ≡ slice_get (gap calls (length filled) place departs own.arr) (i - length filled) = λ i more less.
    let up : length filled + (i - length filled) ≡ i = omega arith in
    rw grows (slice-left (filled ++ gap calls (length filled) place departs own.arr) (with_times call own.arr own.dep ∷ []) i (omega (arith, front_len))
    ∙ sym (ap (slice_get (filled ++ gap calls (length filled) place departs own.arr)) up)
    ∙ slice-right filled (gap calls (length filled) place departs own.arr) (i - length filled)) in
    let top : slice_get new place ≡ Some (with_times call own.arr own.dep) =
    let up : length (filled ++ gap calls (length filled) place departs own.arr) + 0 ≡ place = omega (arith, front_len) in
    rw grows (sym (ap (slice_get ((filled ++ gap calls (length filled) place departs own.arr) ++ with_times call own.arr own.dep ∷ [])) up)
    ∙ slice-right (filled ++ gap calls (length filled) place departs own.arr) (with_times call own.arr own.dep ∷ []) 0) in
    let timed : HasTimes calls place own = (call, here, is) in
    record {
      within = omega (arith, long);
      given = λ i other mine less there has. elim (cases_lt i (length filled)) [
        | inl early ↦ old i early ∙ x.given i other mine early there has
        | inr late ↦ elim (cases_eq i place) [
          | inl same ↦
              let e : slice_get calls place ≡ Some other = rw same at there in
              let s : call ≡ other = cc (here, e) in
              let t : other.times ≡ Some own = rw s at is in
              let o : own ≡ mine = cc (t, has) in
              rw (same, ← s, ← o) top
          | inr apart ↦ let e = x.untimed i other late (omega (arith, long, less)) there in cc (e, has)
        ]
      ];
      between = λ p i q other from to less b there. elim (cases_lt i (length filled)) [
        | inl early ↦ old i early ∙ x.between p i q other from to early b there
        | inr late ↦ elim (cases_eq i place) [
          | inl same ↦ absurd (not-inside calls p place q own timed b.untimed (let h = b.behind in omega arith) (let h = b.ahead in omega arith))
          | inr apart ↦
              let before : i < place = omega (arith, long, less) in
              let (front, back, dep, arr) = ends calls filled place departs own p i q from to x timed late before b in
              let first : i - p ≡ i + 1 - length filled = omega arith in
              let second : q - p ≡ place + 1 - length filled = omega arith in
              rw (first, second, dep, arr) (mid i late before ∙ gap-at calls (length filled) place departs own.arr i other late before there)
        ]
      ];
      last = λ some. let one : length new - 1 ≡ place = omega (arith, long) in (own, rw one timed, refl);
      untimed = λ k other a b there. absurd (omega (arith, long));
    }

pub exact-untimed : (calls : List KeptCall) (filled : List Call) (place departs : ℕ) (call : KeptCall) → Exact calls filled place departs
    → slice_get calls place ≡ Some call → call.times ≡ None → Exact calls filled (place + 1) departs
exact-untimed calls filled place departs call x here is = record {
  within = omega (arith, x.within);
  given = x.given;
  between = x.between;
  last = x.last;
  untimed = λ k other a b there. elim (cases_eq k place) [
    | inl same ↦ let e : slice_get calls place ≡ Some other = rw same at there in let s : call ≡ other = cc (e, here) in rw (← s) is
    | inr apart ↦ x.untimed k other a (omega arith) there
  ];
}

-- at the end all calls are filled
pub exact-all : (calls : List KeptCall) (filled : List Call) (place departs : ℕ) → Exact calls filled place departs → length filled ≡ length calls → IsFilled calls filled
exact-all calls filled place departs x long = record {
  long = long;
  given = λ i call own here is. x.given i call own (omega (arith, long, slice_get_within calls i call here)) here is;
  between = λ p i q call from to b here. x.between p i q call from to (omega (arith, long, slice_get_within calls i call here)) b here;
}
