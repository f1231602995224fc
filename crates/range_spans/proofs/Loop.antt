-- The loop that closes spans, the one with most trips first.
use Rattle.std.proofs.Common.{◌≡◌, ◌≢◌, ℕ, zero, suc, ◌+◌, ◌-◌, ◌<◌, ◌≤◌, ◌⊎◌, inl, inr, List, [], ◌∷◌, ◌++◌, length, get_or, set, reverse, refl, sym, ap, ◌∙◌, subst, arith, Option, Some, None}
use Rattle.std.specs.Prelude.{slice_get, Contains, All}
use Rattle.std.proofs.lemmas.Option.{get_or_from_slice_get, slice_get_within}
use Rattle.std.proofs.lemmas.List.Elements.{Contains-get_or}
use Rattle.std.proofs.lemmas.Bool.{cases_eq}
use Rattle.std.proofs.lemmas.List.{length-set, reverse-append}
use Rattle.pareto_laws.proofs.LeastArcs.{Contains-here, Contains-later, Contains-cons_cases}
use Rattle.move_model.specs.declared.journey.Pair.{Pair}
use Rattle.move_model.specs.declared.journey.Span.{Span}
use Rattle.move_model.specs.Range.{pair_of}
use Rattle.range_spans.specs.declared.pending.OpenSpan.{OpenSpan}
use Rattle.range_spans.specs.Open.{RangeQuery, IsLead, Closing, BeginLater, Stands, span_of}
use Rattle.range_spans.specs.Open.Closing.{stays, closes}
use Rattle.range_spans.proofs.Closes.{close_step, set_none}

pub record CloseState (leads : List (Option ℕ)) (first i : ℕ) (start pending : List (Option OpenSpan)) (was closed : List Span) : Type 0 where
  pub many : length pending ≡ length start
  pub done : (k : ℕ) (s : OpenSpan) → length start ≤ k + i → slice_get pending k ≡ Some (Some s) → slice_get leads k ≡ Some (Some s.arrive)
  pub ended : (s : Span) → Contains (reverse closed) s → Contains (reverse was) s ⊎ ((s.first ≡ first) × (IsLead leads (pair_of s) → ⊥))
  pub later : BeginLater first (reverse was) → (s : Span) → Contains (reverse closed) s → (first < s.first) ⊎ ((s.first ≡ first) × (length start < s.trips + i))
  pub stands : (q : RangeQuery) (last : ℕ) → Stands q first last start (reverse was) → BeginLater first (reverse was) → Stands q first last pending (reverse closed)

pub close_none : (leads : List (Option ℕ)) (first : ℕ) (start : List (Option OpenSpan)) (was : List Span) → CloseState leads first 0 start start was was
close_none leads first start was = record {
  many = refl;
  done = λ k s le at. absurd (past start k s (omega (arith, le)) at);
  ended = λ s has. inl has;
  later = λ after s has. inl (after s has);
  stands = λ q last stand after. stand;
}
  where
    past : (xs : List (Option OpenSpan)) (k : ℕ) (s : OpenSpan) → length xs ≤ k → slice_get xs k ≡ Some (Some s) → ⊥
    past [] k s le at = no at
      where
        no : None ≡ Some (Some s) → ⊥
        no e = cc
    past (x ∷ xs) zero s le at = omega (arith, le)
    past (x ∷ xs) (suc k) s le at = past xs k s (omega (arith, le)) at

pub set_back : {X : Type 0} (xs : List X) (k : ℕ) (x : X) → slice_get xs k ≡ Some x → set xs k x ≡ xs
set_back {X = X} [] k x e = refl
set_back {X = X} (y ∷ xs) zero x e = ap (λ v. v ∷ xs) (some x y e)
  where
    some : (x y : X) → Some y ≡ Some x → x ≡ y
    some x y e = cc
set_back {X = X} (y ∷ xs) (suc k) x e = ap (λ v. y ∷ v) (set_back xs k x e)

some_same : {X : Type 0} (x y : X) → Some x ≡ Some y → x ≡ y
some_same x y e = cc

module _ (leads : List (Option ℕ)) (first i : ℕ) (start pending : List (Option OpenSpan)) (was closed : List Span)
    (state : CloseState leads first i start pending was closed) (within : i < length start)
    (k trips : ℕ) (lead : Option ℕ) (k_is : k + i + 1 ≡ length start) (trips_are : trips ≡ k + 1) (lead_is : slice_get leads k ≡ Some lead) where
  -- nothing is closed
  pub state_stays : (o : Option OpenSpan) → slice_get pending k ≡ Some o → ((s : OpenSpan) → o ≡ Some s → lead ≡ Some s.arrive)
      → CloseState leads first (i + 1) start pending was closed
  state_stays o at led = record {
    many = state.many;
    done = λ j s le at_j. elim (cases_eq j k) [
      | inl e ↦ ap (λ x. slice_get leads x) e ∙ lead_is ∙ ap (λ v. Some v) (led s (some_same o (Some s) (sym at ∙ ap (λ x. slice_get pending x) (sym e) ∙ at_j)))
      | inr other ↦ state.done j s (omega (arith, le, other, k_is)) at_j
    ];
    ended = state.ended;
    later = λ after s has. elim (state.later after s has) [ inl h ↦ inl h | inr h ↦ inr (h.0, omega (arith, h.1)) ];
    stands = state.stands;
  }

  pub state_closes : (o : OpenSpan) → slice_get pending k ≡ Some (Some o) → (lead ≡ Some o.arrive → ⊥)
      → CloseState leads first (i + 1) start (set pending k None) was (closed ++ span_of trips first o ∷ [])
  state_closes o at not_led =
      let turned : reverse (closed ++ span_of trips first o ∷ []) ≡ span_of trips first o ∷ reverse closed = reverse-append closed (span_of trips first o ∷ []) in
      record {
        many = length-set pending k None ∙ state.many;
        done = λ j s le at_j.
            let h : (slice_get pending j ≡ Some (Some s)) × (k ≢ j) = set_none pending k j s at_j in
            state.done j s (omega (arith, le, k_is, h.1)) h.0;
        ended = λ s has. elim (Contains-cons_cases (span_of trips first o) (reverse closed) s (subst (λ v. Contains v s) turned has)) [
          | inl e ↦ inr (sym (ap (λ (v : Span). v.first) e), λ h. gone s e h)
          | inr old ↦ state.ended s old
        ];
        later = λ after s has. elim (Contains-cons_cases (span_of trips first o) (reverse closed) s (subst (λ v. Contains v s) turned has)) [
          | inl e ↦ inr (sym (ap (λ (v : Span). v.first) e), omega (arith, trips_are, k_is, ap (λ (v : Span). v.trips) e))
          | inr old ↦ elim (state.later after s old) [ inl h ↦ inl h | inr h ↦ inr (h.0, omega (arith, h.1)) ]
        ];
        stands = λ q last stand after.
            subst (λ v. Stands q first last (set pending k None) v) (sym turned)
            (subst (λ t. Stands q first last (set pending k None) (span_of t first o ∷ reverse closed)) (sym trips_are)
            (close_step q first last pending (reverse closed) (state.stands q last stand after) k o at
            (λ s has. elim (state.later after s has) [ inl h ↦ inl h | inr h ↦ inr (h.0, omega (arith, h.1, k_is)) ])));
      }
    where
      gone : (s : Span) → span_of trips first o ≡ s → IsLead leads (pair_of s) → ⊥
      gone s e h =
          let same : h.place ≡ k = omega (arith, h.trips_are, trips_are, ap (λ (v : Span). v.trips) e) in
          not_led (some_same lead (Some o.arrive) (sym lead_is ∙ ap (λ x. slice_get leads x) (sym same) ∙ h.lead_is ∙ ap (λ (v : Span). Some (Some v.arrive)) (sym e)))

  pub close_more : (o o' : Option OpenSpan) (closed' : List Span) → slice_get pending k ≡ Some o → Closing lead trips first o o' closed closed'
      → CloseState leads first (i + 1) start (set pending k o') was closed'
  close_more o o' closed' at (stays led) = subst (λ v. CloseState leads first (i + 1) start v was closed) (sym (set_back pending k o at)) (state_stays o at led)
  close_more o o' closed' at (closes {s = s} not_led) = state_closes s at not_led

pub closes_at : (lead : Option ℕ) (trips first : ℕ) (o o' : Option OpenSpan) (closed closed' : List Span) (s : OpenSpan) → o ≡ Some s → o' ≡ None
    → (lead ≡ Some s.arrive → ⊥) → closed' ≡ closed ++ span_of trips first s ∷ [] → Closing lead trips first o o' closed closed'
closes_at lead trips first o o' closed closed' s is none not_led now =
    subst (λ v. Closing lead trips first v o' closed closed') (sym is)
    (subst (λ v. Closing lead trips first (Some s) v closed closed') (sym none)
    (subst (λ v. Closing lead trips first (Some s) None closed v) (sym now) (closes not_led)))

pub stays_none : (lead : Option ℕ) (trips first : ℕ) (o o' : Option OpenSpan) (closed : List Span) → o ≡ None → o' ≡ None → Closing lead trips first o o' closed closed
stays_none lead trips first o o' closed was none =
    subst (λ v. Closing lead trips first v o' closed closed) (sym was)
    (subst (λ v. Closing lead trips first None v closed closed) (sym none) (stays (λ s e. absurd (no s e))))
  where
    no : (s : OpenSpan) → None ≡ Some s → ⊥
    no s e = cc

pub none_led : (leads : List (Option ℕ)) (k a : ℕ) → All (λ lead. lead ≡ None) leads → slice_get leads k ≡ Some (Some a) → ⊥
none_led leads k a all at =
    let e : get_or leads k (Some a) ≡ Some a = get_or_from_slice_get leads k (Some a) (Some a) at in
    let f : get_or leads k (Some a) ≡ None = all k (Some a) (slice_get_within leads k (Some a) at) in
    no a (sym f ∙ e)
  where
    no : (a : ℕ) → None ≡ Some a → ⊥
    no a e = cc

pub each_one : (P : Span → Type 0) (xs : List Span) → ((s : Span) → Contains xs s → P s) → All P xs
each_one P xs each k d lt = each (get_or xs k d) (Contains-get_or xs k d lt)
