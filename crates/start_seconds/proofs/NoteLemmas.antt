-- Starts that are noted call by call.
use Rattle.std.proofs.Common.{◌≡◌, ℕ, ◌+◌, ◌-◌, ◌<◌, ◌≤◌, List, [], ◌∷◌, Some, length, slice_get, refl, sym, ap, ◌∙◌, subst, inl, inr, arith}
use Rattle.std.specs.Prelude.{Contains, IsTrue}
use Rattle.std.specs.List.{AllAdjacentBelow}
use Rattle.std.proofs.lemmas.Bool.{cases_eq}
use Rattle.std.proofs.lemmas.Option.{slice_get_within}
use Rattle.std.proofs.lemmas.List.Elements.{Contains-push, Contains-append_left, Contains-push_cases}
use Rattle.move_model.specs.declared.network.Network.{Network}
use Rattle.move_model.specs.declared.network.Trip.{Trip}
use Rattle.move_model.specs.declared.network.TripNo.{TripNo}
use Rattle.move_model.specs.declared.network.Call.{Call}
use Rattle.move_model.specs.Journey.{HasCall}
use Rattle.stop_rows.specs.Rows.{Rows, place_at, ArePlaces}
use Rattle.start_seconds.specs.declared.start.Start.{Start}
use Rattle.start_seconds.specs.Starts.{HasStart, AreStarts, IsLater}
use Rattle.start_seconds.specs.Noted.{HasCalls, start_of, IsNoted, IsStartCall, IsNoting}

one_call : (n : Network) (trip : TripNo) (k : ℕ) (a b : Call) → HasCall n trip k a → HasCall n trip k b → a ≡ b
one_call n trip k a b (t, at_t, at_k) (t', at_t', at_k') =
    let trips : Some t ≡ Some t' = sym at_t ∙ at_t' in
    let same : t ≡ t' = cc in
    let calls : Some a ≡ Some b = sym at_k ∙ ap (λ (x : Trip). slice_get x.calls k) same ∙ at_k' in
    cc

call_of : (n : Network) (t : ℕ) (calls : List Call) (k : ℕ) (call : Call) → HasCalls n t calls → slice_get calls k ≡ Some call → HasCall n (record { 0 = t }) k call
call_of n t calls k call has at = (has.0, has.1, ap (λ (cs : List Call). slice_get cs k) has.2 ∙ at)

-- a call that may be boarded, and is in time, and another one behind it make a start
start_there : (n : Network) (rows : Rows) (t k : ℕ) (call : Call) → call.stop.0 < length n.stops → IsStartCall n t k call → HasStart n rows (start_of n.buffer rows call)
start_there n rows t k call exists is = record {
  stop = call.stop;
  exists = exists;
  stands = refl;
  is_start = record {
    trip = record { 0 = t };
    place = k;
    call = call;
    next = is.next;
    calls = is.here;
    at_stop = refl;
    departs = omega (arith, is.in_time);
    may_board = is.may_board;
    goes_on = is.goes_on;
  };
}

module _ (n : Network) (rows : Rows) (t k : ℕ) (calls : List Call) (has : HasCalls n t calls) (call next : Call) (at : slice_get calls k ≡ Some call) (behind : slice_get calls (k + 1) ≡ Some next)
    (exists : call.stop.0 < length n.stops) (old new : List Start) where
  same_call : (other : Call) → IsStartCall n t k other → other ≡ call
  same_call other is = one_call n (record { 0 = t }) k other call is.here (call_of n t calls k call has at)

  pub noting_more : IsNoted n.buffer rows call old new → IsNoting n rows t k old → IsNoting n rows t (k + 1) new
  noting_more (inl put) m =
      let is : IsStartCall n t k call = record {
        next = next;
        here = call_of n t calls k call has at;
        goes_on = call_of n t calls (k + 1) next has behind;
        may_board = put.0;
        in_time = put.1;
      } in
      let start = start_of n.buffer rows call in
      let kept : (s : Start) → Contains old s → Contains new s =
      λ s there. subst (λ (ss : List Start). Contains ss s) (sym put.2) (Contains-append_left old (start_of n.buffer rows call ∷ []) s there) in
      record {
        only = λ s there. elim (Contains-push_cases old (start_of n.buffer rows call) s (subst (λ (ss : List Start). Contains ss s) put.2 there)) [
          | inl before ↦ m.only s before
          | inr e ↦ subst (λ (x : Start). HasStart n rows x) e (start_there n rows t k call exists is)
        ];
        before = λ i j other lt there. kept (start_of n.buffer rows other) (m.before i j other lt there);
        here = λ j other lt there. elim (cases_eq j k) [
          | inl e ↦
              let same : other ≡ call = same_call other (subst (λ (x : ℕ). IsStartCall n t x other) e there) in
              subst (λ (x : Call). Contains new (start_of n.buffer rows x)) (sym same)
              (subst (λ (ss : List Start). Contains ss (start_of n.buffer rows call)) (sym put.2) (Contains-push old (start_of n.buffer rows call)))
          | inr ne ↦ kept (start_of n.buffer rows other) (m.here j other (omega (arith, lt, ne)) there)
        ];
      }
  noting_more (inr skip) m =
      let kept : (s : Start) → Contains old s → Contains new s = λ s there. subst (λ (ss : List Start). Contains ss s) (sym skip.1) there in
      record {
        only = λ s there. m.only s (subst (λ (ss : List Start). Contains ss s) skip.1 there);
        before = λ i j other lt there. kept (start_of n.buffer rows other) (m.before i j other lt there);
        here = λ j other lt there. elim (cases_eq j k) [
          | inl e ↦
              let is : IsStartCall n t k other = subst (λ (x : ℕ). IsStartCall n t x other) e there in
              let same : other ≡ call = same_call other is in
              absurd (skip.0 (subst (λ (x : Call). IsTrue x.board) same is.may_board) (subst (λ (x : Call). n.buffer ≤ x.dep) same is.in_time))
          | inr ne ↦ kept (start_of n.buffer rows other) (m.here j other (omega (arith, lt, ne)) there)
        ];
      }

-- all calls of a trip but the last were noted
pub noting_next : (n : Network) (rows : Rows) (t k : ℕ) (calls : List Call) (starts : List Start) → HasCalls n t calls → length calls ≤ k + 1
    → IsNoting n rows t k starts → IsNoting n rows (t + 1) 0 starts
noting_next n rows t k calls starts has all m = record {
  only = m.only;
  before = λ i j call lt is. elim (cases_eq i t) [
    | inl e ↦
        let mine : IsStartCall n t j call = subst (λ (x : ℕ). IsStartCall n x j call) e is in
        m.here j call (inside j call mine) mine
    | inr ne ↦ m.before i j call (omega (arith, lt, ne)) is
  ];
  here = λ j call lt is. absurd (omega arith);
}
  where
    inside : (j : ℕ) (call : Call) → IsStartCall n t j call → j < k
    inside j call is =
        let trips : Some has.0 ≡ Some is.goes_on.0 = sym has.1 ∙ is.goes_on.1 in
        let same : has.0 ≡ is.goes_on.0 = cc in
        let there : slice_get calls (j + 1) ≡ Some is.next = ap (λ (cs : List Call). slice_get cs (j + 1)) (sym has.2) ∙ ap (λ (x : Trip). slice_get x.calls (j + 1)) same ∙ is.goes_on.2 in
        omega (arith, slice_get_within calls (j + 1) is.next there, all)

pub noting_first : (n : Network) (rows : Rows) → IsNoting n rows 0 0 []
noting_first n rows = record {
  only = λ s there. absurd (omega (arith, there.1));
  before = λ i j call lt is. absurd (omega arith);
  here = λ j call lt is. absurd (omega arith);
}

-- all trips were noted
pub starts_are : (n : Network) (rows : Rows) (t : ℕ) (noted starts : List Start) → ArePlaces n rows → length n.trips ≤ t → IsNoting n rows t 0 noted
    → ((s : Start) → (Contains starts s → Contains noted s) × (Contains noted s → Contains starts s)) → AllAdjacentBelow IsLater starts (length starts) → AreStarts n rows starts
starts_are n rows t noted starts places all m same falling = record {
  exact = λ s. (
    λ there. m.only s ((same s).0 there),
    λ has.
        let is = has.is_start in
        let trip = is.calls.0 in
        let start_call : IsStartCall n is.trip.0 is.place is.call = record {
          next = is.next;
          here = is.calls;
          goes_on = is.goes_on;
          may_board = is.may_board;
          in_time = omega (arith, is.departs);
        } in
        let there = m.before is.trip.0 is.place is.call (omega (arith, slice_get_within n.trips is.trip.0 trip is.calls.1, all)) start_call in
        let place : place_at rows is.call.stop ≡ s.place = ap (place_at rows) is.at_stop ∙ has.stands in
        let second : is.call.dep - n.buffer ≡ s.second = omega (arith, is.departs) in
        let at : start_of n.buffer rows is.call ≡ s =
        ap (λ (p : ℕ). let x : Start = record { place = p; second = is.call.dep - n.buffer } in x) place ∙ ap (λ (z : ℕ). let x : Start = record { place = s.place; second = z } in x) second in
        (same s).1 (subst (λ (x : Start). Contains noted x) at there),
  );
  falling = falling;
}
