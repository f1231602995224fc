-- Lists that grow in front, and an open span that is closed.
use Rattle.std.proofs.Common.{◌≡◌, ◌≢◌, ℕ, zero, suc, ◌+◌, ◌-◌, ◌<◌, ◌≤◌, ◌⊎◌, ◌↔◌, inl, inr, List, [], ◌∷◌, ◌++◌, length, get_or, set, refl, sym, ap, ◌∙◌, subst, arith, Option, Some, None}
use Rattle.std.specs.Prelude.{slice_get, AllPairs, Contains}
use Rattle.std.specs.List.{AllAdjacentBelow}
use Rattle.std.proofs.lemmas.Bool.{cases_eq}
use Rattle.pareto_laws.proofs.LeastArcs.{Contains-here, Contains-later, Contains-cons_cases}
use Rattle.move_model.specs.declared.journey.Pair.{Pair}
use Rattle.move_model.specs.declared.journey.Span.{Span}
use Rattle.move_model.specs.Shortcut.{IsLess}
use Rattle.move_model.specs.Range.{HasSpanPair, CarriesRides, IsSpanWithin, pair_of}
use Rattle.range_spans.specs.declared.pending.OpenSpan.{OpenSpan}
use Rattle.range_spans.specs.Open.{RangeQuery, IsBestRide, IsOpen, Stands, span_of}

get_within : {X : Type 0} (xs : List X) (k : ℕ) (d : X) → k < length xs → Contains xs (get_or xs k d)
get_within [] k d lt = absurd (omega (arith, lt))
get_within (x ∷ xs) zero d lt = Contains-here x xs
get_within (x ∷ xs) (suc k) d lt = Contains-later x xs (get_or xs k d) (get_within xs k d (omega (arith, lt)))

pairs_front : {X : Type 0} (R : X → X → Type 0) (x : X) (xs : List X) → AllPairs R xs → ((y : X) → Contains xs y → R x y) → AllPairs R (x ∷ xs)
pairs_front R x xs pairs each zero zero d lt within = absurd (omega (arith, lt))
pairs_front R x xs pairs each zero (suc j) d lt within = each (get_or xs j d) (get_within xs j d (omega (arith, within)))
pairs_front R x xs pairs each (suc i) zero d lt within = absurd (omega (arith, lt))
pairs_front R x xs pairs each (suc i) (suc j) d lt within = pairs i j d (omega (arith, lt)) (omega (arith, within))

adjacent_front : {X : Type 0} (R : X → X → Type 0) (x : X) (xs : List X) → AllAdjacentBelow R xs (length xs) → ((y : X) → Contains xs y → R x y)
    → AllAdjacentBelow R (x ∷ xs) (length (x ∷ xs))
adjacent_front R x [] adjacent each k d lt = absurd (omega (arith, lt))
adjacent_front R x (y ∷ xs) adjacent each zero d lt = each y (Contains-here y xs)
adjacent_front R x (y ∷ xs) adjacent each (suc k) d lt =
    let e : suc (k + 1) ≡ suc k + 1 = omega arith in
    subst (λ j. R (get_or (y ∷ xs) k d) (get_or (x ∷ y ∷ xs) j d)) e (adjacent k d (omega (arith, lt)))

pub set_none : {X : Type 0} (xs : List (Option X)) (i j : ℕ) (x : X) → slice_get (set xs i None) j ≡ Some (Some x) → (slice_get xs j ≡ Some (Some x)) × (i ≢ j)
set_none [] i j x e = absurd (no e)
  where
    no : None ≡ Some (Some x) → ⊥
    no e = cc
set_none (y ∷ xs) zero zero x e = absurd (no e)
  where
    no : Some None ≡ Some (Some x) → ⊥
    no e = cc
set_none (y ∷ xs) zero (suc j) x e = (e, λ f. omega (arith, f))
set_none (y ∷ xs) (suc i) zero x e = (e, λ f. omega (arith, f))
set_none (y ∷ xs) (suc i) (suc j) x e =
    let h : (slice_get xs j ≡ Some (Some x)) × (i ≢ j) = set_none xs i j x e in
    (h.0, λ f. h.1 (omega (arith, f)))

set_kept : {X : Type 0} (xs : List (Option X)) (i j : ℕ) (x : X) → i ≢ j → slice_get xs j ≡ Some (Some x) → slice_get (set xs i None) j ≡ Some (Some x)
set_kept [] i j x other e = e
set_kept (y ∷ xs) zero zero x other e = absurd (other refl)
set_kept (y ∷ xs) zero (suc j) x other e = e
set_kept (y ∷ xs) (suc i) zero x other e = e
set_kept (y ∷ xs) (suc i) (suc j) x other e = set_kept xs i j x (λ f. other (ap suc f)) e

pub same_span : (open' : List (Option OpenSpan)) (i j : ℕ) (a b : OpenSpan) → i ≡ j → slice_get open' i ≡ Some (Some a) → slice_get open' j ≡ Some (Some b) → a ≡ b
same_span open' i j a b e is_a is_b = some_some (sym is_a ∙ ap (λ k. slice_get open' k) e ∙ is_b)
  where
    some_some : Some (Some a) ≡ Some (Some b) → a ≡ b
    some_some e = cc

pub pair_same : (a t b u : ℕ) → a ≡ b → t ≡ u → record { arrive = a; trips = t } ≡ (let v : Pair = record { arrive = b; trips = u } in v)
pair_same a t b u e f = cc

-- the span at a place is closed at the first second, where no later one of as few trips was closed there
module _ (q : RangeQuery) (first last : ℕ) (open' : List (Option OpenSpan)) (spans : List Span) (was : Stands q first last open' spans)
    (k : ℕ) (o : OpenSpan) (is : slice_get open' k ≡ Some (Some o))
    (later : (s : Span) → Contains spans s → (first < s.first) ⊎ ((s.first ≡ first) × (k + 1 < s.trips))) where
  abbrev span : Span
  span = span_of (k + 1) first o

  span_best : (d : ℕ) → first ≤ d → d ≤ o.last → IsBestRide q d (pair_of span)
  span_best d after before =
      (was.cover d (pair_of span) after (omega (arith, before, (was.open_within k o is).1))).1
      (inr (record { place = k; span = o; trips_are = refl; is_span = is; arrive_is = refl; reaches = before }))

  to_new : (d : ℕ) (pair : Pair) → first ≤ d → HasSpanPair spans d pair ⊎ IsOpen open' d pair → HasSpanPair (span ∷ spans) d pair ⊎ IsOpen (set open' k None) d pair
  to_new d pair after (inl h) = inl (record { span = h.span; is_span = Contains-later span spans h.span h.is_span; covers = h.covers; pair_is = h.pair_is })
  to_new d pair after (inr h) = elim (cases_eq h.place k) [
    | inl e ↦
        let same : h.span ≡ o = same_span open' h.place k h.span o e h.is_span is in
        inl (record {
          span = span;
          is_span = Contains-here span spans;
          covers = (after, omega (arith, h.reaches, ap (λ (v : OpenSpan). v.last) same));
          pair_is = pair_same o.arrive (k + 1) pair.arrive pair.trips (omega (arith, h.arrive_is, ap (λ (v : OpenSpan). v.arrive) same)) (omega (arith, h.trips_are, e));
        })
    | inr other ↦
        inr (record { place = h.place; span = h.span; trips_are = h.trips_are; is_span = set_kept open' k h.place h.span (λ f. other (sym f)) h.is_span; arrive_is = h.arrive_is; reaches = h.reaches })
  ]

  from_new : (d : ℕ) (pair : Pair) → first ≤ d → d ≤ last → HasSpanPair (span ∷ spans) d pair ⊎ IsOpen (set open' k None) d pair → IsBestRide q d pair
  from_new d pair after before (inl h) = elim (Contains-cons_cases span spans h.span h.is_span) [
    | inl e ↦ subst (λ p. IsBestRide q d p) (ap pair_of e ∙ h.pair_is) (span_best d after (omega (arith, h.covers.1, ap (λ (v : Span). v.last) e)))
    | inr old ↦ (was.cover d pair after before).1 (inl (record { span = h.span; is_span = old; covers = h.covers; pair_is = h.pair_is }))
  ]
  from_new d pair after before (inr h) =
      (was.cover d pair after before).1 (inr (record {
        place = h.place;
        span = h.span;
        trips_are = h.trips_are;
        is_span = (set_none open' k h.place h.span h.is_span).0;
        arrive_is = h.arrive_is;
        reaches = h.reaches;
      }))

  apart : (s : Span) → Contains spans s → pair_of span ≢ pair_of s
  apart s has e = elim (later s has) [
    | inl after ↦
        was.ended s first has (omega arith) after (subst (λ p. IsBestRide q first p) e (span_best first (omega arith) (was.open_within k o is).0))
    | inr same ↦ omega (arith, same.1, ap (λ (p : Pair). p.trips) e)
  ]

  before : (s : Span) → Contains spans s → IsLess (span.first ∷ span.trips ∷ []) (s.first ∷ s.trips ∷ [])
  before s has = elim (later s has) [
    | inl after ↦ inl after
    | inr same ↦ inr (sym same.0, inl same.1)
  ]

  pub close_step : Stands q first last (set open' k None) (span ∷ spans)
  close_step = record {
    cover = λ d pair after before. (λ best. to_new d pair after ((was.cover d pair after before).0 best), from_new d pair after before);
    within = λ s has. elim (Contains-cons_cases span spans s has) [
      | inl e ↦ subst (IsSpanWithin first last) e (record { some_trip = omega arith; begins = omega arith; some_second = (was.open_within k o is).0; ends = (was.open_within k o is).1 })
      | inr old ↦ was.within s old
    ];
    open_within = λ j s at. was.open_within j s (set_none open' k j s at).0;
    ended = λ s d has after below. elim (Contains-cons_cases span spans s has) [
      | inl e ↦ absurd (omega (arith, after, below, ap (λ (v : Span). v.first) e))
      | inr old ↦ was.ended s d old after below
    ];
    one_each = pairs_front (λ a b. pair_of a ≢ pair_of b) span spans was.one_each apart;
    in_order = adjacent_front (λ a b. IsLess (a.first ∷ a.trips ∷ []) (b.first ∷ b.trips ∷ [])) span spans was.in_order before;
    rides = λ s has. elim (Contains-cons_cases span spans s has) [
      | inl e ↦ subst (CarriesRides q.network q.first_row q.last_row q.list) e (record { listed = (was.open_rides k o is).0; many = (was.open_rides k o is).1 })
      | inr old ↦ was.rides s old
    ];
    open_rides = λ j s at. was.open_rides j s (set_none open' k j s at).0;
  }
