-- A range has one answer at most, but for the rides of its spans.
use Rattle.std.proofs.Common.{◌≡◌, ℕ, ◌+◌, ◌<◌, ◌≤◌, List, [], ◌∷◌, map, length, get_or, refl, sym, ap, ◌∙◌, subst, inl, inr, arith, Option, Some, None}
use Rattle.std.specs.Prelude.{◌≢◌, Contains, All, AllPairs}
use Rattle.std.specs.List.{AllAdjacentBelow}
use Rattle.std.proofs.lemmas.Bool.{cases_lt}
use Rattle.std.proofs.lemmas.List.{get_or_default, get_or-map, length-map}
use Rattle.move_model.specs.declared.network.Network.{Network}
use Rattle.move_model.specs.declared.network.NodeNo.{NodeNo}
use Rattle.move_model.specs.declared.journey.Pair.{Pair}
use Rattle.move_model.specs.declared.journey.Span.{Span}
use Rattle.move_model.specs.declared.journey.Shortcut.{Shortcut}
use Rattle.move_model.specs.declared.journey.Profile.{Profile}
use Rattle.move_model.specs.Streets.{Streets, HasDistance}
use Rattle.move_model.specs.Network.{streets}
use Rattle.move_model.specs.Journey.{IsBest}
use Rattle.move_model.specs.Shortcut.{IsLess}
use Rattle.move_model.specs.Range.{Covers, pair_of, HasSpanPair, IsSpanWithin, IsRangeOf, IsRange, IsListedRange, without_rides, outline}
use Rattle.pareto_laws.proofs.Distances.{distance_same}
use Rattle.pareto_laws.proofs.Lexicographic.{IsLess-irreflexive, IsLess-trans}
use Rattle.pareto_laws.proofs.Unique.{rising_unique}

placed : {X : Type 0} (xs : List X) (x : X) (has : Contains xs x) (d : X) → get_or xs has.0 d ≡ x
placed xs x has d = get_or_default xs has.0 d x has.1 ∙ has.2

all_of : {X : Type 0} (P : X → Type 0) (xs : List X) (x : X) → All P xs → Contains xs x → P x
all_of P xs x each has = subst P has.2 (each has.0 x has.1)

-- of two spans with one pair neither stands before the other
one_of : (xs : List Span) (a b : Span) → AllPairs (λ a b. pair_of a ≢ pair_of b) xs → Contains xs a → Contains xs b → pair_of a ≡ pair_of b → a ≡ b
one_of xs a b each has has' e = elim (cases_lt has.0 has'.0) [
  | inl h ↦ absurd (each has.0 has'.0 a h has'.1 (ap pair_of (placed xs a has a) ∙ e ∙ ap pair_of (sym (placed xs b has' a))))
  | inr h ↦ elim (cases_lt has'.0 has.0) [
    | inl g ↦ absurd (each has'.0 has.0 a g has.1 (ap pair_of (placed xs b has' a) ∙ sym e ∙ ap pair_of (sym (placed xs a has a))))
    | inr g ↦
        let same : has.0 ≡ has'.0 = omega (arith, h, g) in
        sym (placed xs a has a) ∙ ap (λ i. get_or xs i a) same ∙ placed xs b has' a
  ]
]

span_eq : (a b : Span) → a.first ≡ b.first → a.last ≡ b.last → pair_of a ≡ pair_of b → without_rides a ≡ without_rides b
span_eq a b e f p = λ i. record { first = e i; last = f i; trips = (p i).trips; arrive = (p i).arrive; rides = [] }

module _ (best : ℕ → Pair → Type 0) (first last : ℕ) (foot : Option ℕ) where
  -- a span that has the pair of a span of the other answer, and covers one of its seconds
  at_second : (xs ys : List Span) → IsRangeOf best first last foot xs → IsRangeOf best first last foot ys
      → (a : Span) → Contains xs a → (d : ℕ) → Covers a d → HasSpanPair ys d (pair_of a)
  at_second xs ys left right a has d covers =
      let within : IsSpanWithin first last a = all_of (IsSpanWithin first last) xs a left.within has in
      let after : first ≤ d = omega (arith, within.begins, covers.0) in
      let before : d ≤ last = omega (arith, within.ends, covers.1) in
      let is : best d (pair_of a) = (left.exact d after before (pair_of a)).0 (inr (record { span = a; is_span = has; covers = covers; pair_is = refl })) in
      elim ((right.exact d after before (pair_of a)).1 is) [
        | inl on_foot ↦ absurd (omega (arith, on_foot.no_trip, within.some_trip))
        | inr there ↦ there
      ]

  -- the other answer has a span of this pair that reaches at least as far
  record Reaches (ys : List Span) (a : Span) : Type 0 where
    span : Span
    is_span : Contains ys span
    pair_is : pair_of span ≡ pair_of a
    begins : span.first ≤ a.first
    ends : a.last ≤ span.last

  reaches : (xs ys : List Span) → IsRangeOf best first last foot xs → IsRangeOf best first last foot ys → (a : Span) → Contains xs a → Reaches ys a
  reaches xs ys left right a has =
      let within : IsSpanWithin first last a = all_of (IsSpanWithin first last) xs a left.within has in
      let there : HasSpanPair ys a.first (pair_of a) = at_second xs ys left right a has a.first (omega arith, within.some_second) in
      let here : HasSpanPair ys a.last (pair_of a) = at_second xs ys left right a has a.last (within.some_second, omega arith) in
      let same : there.span ≡ here.span = one_of ys there.span here.span right.one_each there.is_span here.is_span (there.pair_is ∙ sym here.pair_is) in
      record {
        span = there.span;
        is_span = there.is_span;
        pair_is = there.pair_is;
        begins = there.covers.0;
        ends = subst (λ (s : Span). a.last ≤ s.last) (sym same) here.covers.1;
      }

  -- so it has the same span
  same_span : (xs ys : List Span) → IsRangeOf best first last foot xs → IsRangeOf best first last foot ys → (a : Span) → Contains xs a
      → (b : Span) × (Contains ys b) × (without_rides a ≡ without_rides b)
  same_span xs ys left right a has =
      let b : Reaches ys a = reaches xs ys left right a has in
      let back : Reaches xs b.span = reaches ys xs right left b.span b.is_span in
      let same : back.span ≡ a = one_of xs back.span a left.one_each back.is_span has (back.pair_is ∙ b.pair_is) in (
        b.span,
        b.is_span,
        span_eq a b.span
            (omega (arith, b.begins, back.begins, ap (λ (s : Span). s.first) same))
            (omega (arith, b.ends, back.ends, ap (λ (s : Span). s.last) same))
            (sym b.pair_is),
      )

  outlined : (xs : List Span) (b : Span) → Contains xs b → Contains (map without_rides xs) (without_rides b)
  outlined xs b has =
      (has.0, omega (arith, has.1, length-map xs without_rides), get_or-map without_rides xs has.0 b (without_rides b) has.1 ∙ ap without_rides has.2)

  outlined_back : (xs : List Span) (o : Span) → Contains (map without_rides xs) o → (a : Span) × (Contains xs a) × (without_rides a ≡ o)
  outlined_back xs o has =
      let lt : has.0 < length xs = omega (arith, has.1, length-map xs without_rides) in
      (get_or xs has.0 o, (has.0, lt, get_or_default xs has.0 _ o lt), sym (get_or-map without_rides xs has.0 o o lt) ∙ has.2)

  members : (xs ys : List Span) → IsRangeOf best first last foot xs → IsRangeOf best first last foot ys
      → (o : Span) → Contains (map without_rides xs) o → Contains (map without_rides ys) o
  members xs ys left right o has =
      let a : (a : Span) × (Contains xs a) × (without_rides a ≡ o) = outlined_back xs o has in
      let b : (b : Span) × (Contains ys b) × (without_rides a.0 ≡ without_rides b) = same_span xs ys left right a.0 a.1 in
      subst (λ v. Contains (map without_rides ys) v) (sym b.2 ∙ a.2) (outlined ys b.0 b.1)

  abbrev Before : Span → Span → Type 0
  Before a b = IsLess (a.first ∷ a.trips ∷ []) (b.first ∷ b.trips ∷ [])

  rises : (xs : List Span) → AllAdjacentBelow Before xs (length xs) → AllAdjacentBelow Before (map without_rides xs) (length (map without_rides xs))
  rises xs in_order k d lt =
      let long : length (map without_rides xs) ≡ length xs = length-map xs without_rides in
      let here : get_or (map without_rides xs) k d ≡ without_rides (get_or xs k d) = get_or-map without_rides xs k d d (omega (arith, lt, long)) in
      let next : get_or (map without_rides xs) (k + 1) d ≡ without_rides (get_or xs (k + 1) d) = get_or-map without_rides xs (k + 1) d d (omega (arith, lt, long)) in
      subst (λ a. Before a (get_or (map without_rides xs) (k + 1) d)) (sym here)
      (subst (λ b. Before (without_rides (get_or xs k d)) b) (sym next) (in_order k d (omega (arith, lt, long))))

  pub spans_unique : (xs ys : List Span) → IsRangeOf best first last foot xs → IsRangeOf best first last foot ys → map without_rides xs ≡ map without_rides ys
  spans_unique xs ys left right =
      rising_unique Before
      (λ a. IsLess-irreflexive (a.first ∷ a.trips ∷ []))
      (λ a b c. IsLess-trans (a.first ∷ a.trips ∷ []) (b.first ∷ b.trips ∷ []) (c.first ∷ c.trips ∷ []))
      (map without_rides xs) (map without_rides ys) (rises xs left.in_order) (rises ys right.in_order)
      (λ o. (members xs ys left right o, members ys xs right left o))

outline_eq : (p q : Profile) → p.foot ≡ q.foot → map without_rides p.spans ≡ map without_rides q.spans → outline p ≡ outline q
outline_eq p q e f = λ i. record { foot = e i; spans = f i }

distance_unique : (g : Streets) (a b : NodeNo) (o p : Option ℕ) → HasDistance g a b o → HasDistance g a b p → o ≡ p
distance_unique g a b None None none none' = refl
distance_unique g a b None (Some m) none is = absurd (none is.attained.0 m is.attained.1)
distance_unique g a b (Some l) None is none = absurd (none is.attained.0 l is.attained.1)
distance_unique g a b (Some l) (Some m) is is' = ap (λ k. Some k) (distance_same is is')

pub ranges_unique : (n : Network) (s t : NodeNo) (limit first last : ℕ) (p q : Profile) → IsRange n s t limit first last p
    → IsRange n s t limit first last q → outline p ≡ outline q
ranges_unique n s t limit first last p q left right =
    let same : q.foot ≡ p.foot = distance_unique (streets n) s t q.foot p.foot right.foot left.foot in
    outline_eq p q (sym same)
    (spans_unique (λ d pair. IsBest n s d t limit pair) first last p.foot p.spans q.spans left.spans
    (subst (λ o. IsRangeOf (λ d pair. IsBest n s d t limit pair) first last o q.spans) same right.spans))

pub listed_ranges_unique : (n : Network) (list : List Shortcut) (first_row last_row : List (Option ℕ)) (foot : Option ℕ) (limit first last : ℕ) (p q : Profile)
    → IsListedRange n first_row last_row list foot limit first last p → IsListedRange n first_row last_row list foot limit first last q → outline p ≡ outline q
listed_ranges_unique n list first_row last_row foot limit first last p q left right =
    outline_eq p q (left.foot_is ∙ sym right.foot_is) (spans_unique _ first last foot p.spans q.spans left.spans right.spans)
