-- From one second to the one before, and the end.
use Rattle.std.proofs.Common.{◌≡◌, ℕ, ◌+◌, ◌<◌, ◌≤◌, ◌⊎◌, ◌↔◌, inl, inr, List, [], ◌∷◌, length, refl, sym, ap, ◌∙◌, subst, arith, Option, Some, None}
use Rattle.std.specs.Prelude.{slice_get, slice_index_or, Contains}
use Rattle.std.proofs.lemmas.List.Elements.{Contains-get_or}
use Rattle.std.proofs.lemmas.Bool.{cases_eq, cases_lt}
use Rattle.move_model.specs.declared.journey.Pair.{Pair}
use Rattle.move_model.specs.declared.journey.Span.{Span}
use Rattle.move_model.specs.Listed.{IsListed}
use Rattle.move_model.specs.Range.{HasSpanPair, IsOffered, IsListedBest, IsRangeOf, IsSpanWithin, pair_of}
use Rattle.range_spans.specs.declared.pending.OpenSpan.{OpenSpan}
use Rattle.range_spans.specs.Open.{RangeQuery, IsBestRide, IsLead, Tells, IsOpen, BeginLater, Stands, Opens}
use Rattle.range_spans.proofs.Steady.{steady, foot_best, best_walks}

-- no pair that was closed or is open is missed at the second before
module _ (q : RangeQuery) (d last : ℕ) (leads : List (Option ℕ)) (before after : List (Option OpenSpan)) (spans : List Span)
    (was : Stands q (d + 1) last before spans) (tells : Tells q d leads)
    (kept : (k : ℕ) (s : OpenSpan) → slice_get before k ≡ Some (Some s) → slice_get leads k ≡ Some (Some s.arrive))
    (ended : (s : Span) → Contains spans s → s.first ≡ d + 1 → IsLead leads (pair_of s) → ⊥)
    (opens : Opens q d leads before after) (within : d ≤ last) where
  is_led : (pair : Pair) → IsOpen after d pair → IsLead leads pair
  is_led pair h = elim (opens.each h.place h.span h.is_span) [
    | inl old ↦ lead (kept h.place h.span old)
    | inr new ↦ lead new.lead_is
  ]
    where
      lead : slice_get leads h.place ≡ Some (Some h.span.arrive) → IsLead leads pair
      lead e = record { place = h.place; trips_are = h.trips_are; lead_is = subst (λ a. slice_get leads h.place ≡ Some (Some a)) (sym h.arrive_is) e }

  now_open : (pair : Pair) → IsLead leads pair → IsOpen after d pair
  now_open pair h =
      let o : (s : OpenSpan) × (slice_get after h.place ≡ Some (Some s)) × (s.arrive ≡ pair.arrive) = opens.all h.place pair.arrive h.lead_is in
      record {
        place = h.place;
        span = o.0;
        trips_are = h.trips_are;
        is_span = o.1;
        arrive_is = sym o.2;
        reaches = elim (opens.each h.place o.0 o.1) [
          | inl old ↦ omega (arith, (was.open_within h.place o.0 old).0)
          | inr new ↦ omega (arith, new.last_is)
        ];
      }

  at_second : (pair : Pair) → IsBestRide q d pair ↔ (HasSpanPair spans d pair ⊎ IsOpen after d pair)
  at_second pair = (
    λ best. inr (now_open pair ((tells pair).0 best)),
    λ h. elim h [
      | inl s ↦ absurd (omega (arith, s.covers.0, (was.within s.span s.is_span).begins))
      | inr o ↦ (tells pair).1 (is_led pair o)
    ],
  )

  at_later : (e : ℕ) (pair : Pair) → d < e → e ≤ last → IsBestRide q e pair ↔ (HasSpanPair spans e pair ⊎ IsOpen after e pair)
  at_later e pair later before_last = (
    λ best. elim ((was.cover e pair (omega (arith, later)) before_last).0 best) [
      | inl s ↦ inl s
      | inr o ↦ inr (record { place = o.place; span = o.span; trips_are = o.trips_are; is_span = opens.stay o.place o.span o.is_span; arrive_is = o.arrive_is; reaches = o.reaches })
    ],
    λ h. (was.cover e pair (omega (arith, later)) before_last).1 (elim h [
      | inl s ↦ inl s
      | inr o ↦ elim (opens.each o.place o.span o.is_span) [
        | inl old ↦ inr (record { place = o.place; span = o.span; trips_are = o.trips_are; is_span = old; arrive_is = o.arrive_is; reaches = o.reaches })
        | inr new ↦ absurd (omega (arith, new.last_is, o.reaches, later))
      ]
    ]),
  )

  not_before : (s : Span) (e : ℕ) → Contains spans s → d ≤ e → e < s.first → IsBestRide q e (pair_of s) → ⊥
  not_before s e has from below best = elim (cases_lt d e) [
    | inl later ↦ was.ended s e has (omega (arith, later)) below best
    | inr le ↦
        let here : IsBestRide q d (pair_of s) = subst (λ v. IsBestRide q v (pair_of s)) (omega (arith, le, from)) best in
        elim (cases_eq s.first (d + 1)) [
          | inl next ↦ ended s has next ((tells (pair_of s)).0 here)
          | inr other ↦
              let w : IsSpanWithin (d + 1) last s = was.within s has in
              let there : IsBestRide q s.first (pair_of s) = (was.cover s.first (pair_of s) w.begins (omega (arith, w.some_second, w.ends))).1
              (inl (record { span = s; is_span = has; covers = (omega arith, w.some_second); pair_is = refl })) in
              was.ended s (d + 1) has (omega arith) (omega (arith, other, w.begins)) (steady q d (d + 1) s.first (pair_of s) (omega arith) w.begins here there)
        ]
  ]

  pub step_back : Stands q d last after spans
  step_back = record {
    cover = λ e pair from before_last. elim (cases_lt d e) [
      | inl later ↦ at_later e pair later before_last
      | inr le ↦ subst (λ v. IsBestRide q v pair ↔ (HasSpanPair spans v pair ⊎ IsOpen after v pair)) (omega (arith, le, from)) (at_second pair)
    ];
    within = λ s has. let w = was.within s has in record { some_trip = w.some_trip; begins = omega (arith, w.begins); some_second = w.some_second; ends = w.ends };
    open_within = λ k s at. elim (opens.each k s at) [
      | inl old ↦ (omega (arith, (was.open_within k s old).0), (was.open_within k s old).1)
      | inr new ↦ (omega (arith, new.last_is), omega (arith, new.last_is, within))
    ];
    ended = not_before;
    one_each = was.one_each;
    in_order = was.in_order;
    rides = was.rides;
    open_rides = λ k s at. elim (opens.each k s at) [
      | inl old ↦ was.open_rides k s old
      | inr new ↦ (subst (λ v. IsListed q.network q.first_row q.last_row q.list v s.rides s.arrive) (sym new.last_is) new.listed, new.many)
    ];
  }

pub step_later : (d : ℕ) (spans : List Span) → ((s : Span) → Contains spans s → d + 1 ≤ s.first) → BeginLater d spans
step_later d spans all s has = omega (arith, all s has)

-- nothing is open any more
pub range_of : (q : RangeQuery) (first last : ℕ) (open' : List (Option OpenSpan)) (spans : List Span) → Stands q first last open' spans
    → ((k : ℕ) (s : OpenSpan) → slice_get open' k ≡ Some (Some s) → ⊥)
    → IsRangeOf (λ d pair. IsListedBest q.network q.first_row q.last_row q.list q.foot d q.limit pair) first last q.foot spans
range_of q first last open' spans was none = record {
  within = λ k d lt. was.within _ (at k d lt);
  exact = λ d from before pair. (offered d pair from before, best d pair from before);
  one_each = was.one_each;
  in_order = was.in_order;
}
  where
    at : (k : ℕ) (d : Span) → k < length spans → Contains spans (slice_index_or spans k d)
    at k d lt = Contains-get_or spans k d lt

    offered : (d : ℕ) (pair : Pair) → first ≤ d → d ≤ last → IsOffered q.foot spans d pair → IsListedBest q.network q.first_row q.last_row q.list q.foot d q.limit pair
    offered d pair from before (inl walk) = foot_best q d pair walk
    offered d pair from before (inr span) = ((was.cover d pair from before).1 (inl span)).best

    best : (d : ℕ) (pair : Pair) → first ≤ d → d ≤ last → IsListedBest q.network q.first_row q.last_row q.list q.foot d q.limit pair → IsOffered q.foot spans d pair
    best d pair from before is = elim (cases_eq pair.trips 0) [
      | inl walks ↦ inl (best_walks q d pair is walks)
      | inr rides ↦ elim ((was.cover d pair from before).0 (record { best = is; rides = omega (arith, rides) })) [
        | inl span ↦ inr span
        | inr o ↦ absurd (none o.place o.span o.is_span)
      ]
    ]
