-- Spans that are opened at a second.
use Rattle.std.proofs.Common.{◌≡◌, ℕ, zero, suc, ◌+◌, ◌-◌, ◌^◌, ◌<◌, ◌≤◌, ◌⊎◌, inl, inr, List, [], ◌∷◌, length, take, set, refl, sym, ap, ◌∙◌, subst, arith, Option, Some, None}
use Rattle.std.specs.Prelude.{slice_get, slice_index_or, Contains, MatchOption}
use Rattle.std.proofs.lemmas.Bool.{cases_eq}
use Rattle.std.proofs.lemmas.List.{length-set}
use Rattle.std.proofs.lemmas.Option.{slice_get_within, get_or_from_slice_get, same_Some}
use Rattle.move_model.specs.declared.journey.Ride.{Ride}
use Rattle.move_model.specs.declared.journey.Span.{Span}
use Rattle.move_model.specs.Listed.{IsListed}
use Rattle.move_model.specs.Range.{pair_of}
use Rattle.route_split.specs.Table.{Table}
use Rattle.raptor_rounds.specs.Answers.{turned_onto}
use Rattle.range_spans.specs.declared.pending.OpenSpan.{OpenSpan}
use Rattle.range_spans.specs.Open.{RangeQuery, IsLead, BeginLater, Stands, Opens, IsOpened}
use Rattle.range_spans.proofs.Steps.{step_back}
use Rattle.range_lanes.specs.declared.level.Level.{Level}
use Rattle.range_lanes.specs.State.{IsChain}
use Rattle.range_lanes.proofs.LevelLemmas.{set_get, set_get_other}
use Rattle.range_lanes.proofs.RoundLaw.{item_at}
use Rattle.range_search.specs.Leads.{IsLeadOf, IsOpeningOf, Right}
use Rattle.range_search.proofs.LeadLemmas.{LeadCases, lead_cases, led_listed, best_chain, bound_low, tells}

no_some : {X : Type 0} (o : Option X) (x : X) → o ≡ None → o ≡ Some x → ⊥
no_some o x e f = cc

pub open_unled : (levels : List Level) (k d : ℕ) (lead : Option ℕ) (old : Option OpenSpan) → lead ≡ None → IsOpeningOf levels k lead d old old
open_unled levels k d lead old none = record {
  each = λ s e. inl e;
  stay = λ s e. e;
  all = λ arrive e. absurd (no_some lead arrive none e);
}

pub open_stays : (levels : List Level) (k d : ℕ) (lead : Option ℕ) (old : Option OpenSpan) (s : OpenSpan) → old ≡ Some s → IsOpeningOf levels k lead d old old
open_stays levels k d lead old s is = record {
  each = λ o e. inl e;
  stay = λ o e. e;
  all = λ arrive e. (s, is, inl is);
}

pub open_new : (levels : List Level) (k d : ℕ) (lead : Option ℕ) (old new : Option OpenSpan) (o : OpenSpan) → old ≡ None → new ≡ Some o → o.last ≡ d → lead ≡ Some o.arrive
    → ((level : Level) (chain : List Ride) → slice_get levels k ≡ Some level → IsChain levels k level.best_stop chain → o.rides ≡ turned_onto chain [])
    → IsOpeningOf levels k lead d old new
open_new levels k d lead old new o none is last_is lead_is rides = record {
  each = λ s e.
      let same : o ≡ s = same_Some o s (sym is ∙ e) in
      inr (subst (λ (v : OpenSpan). (v.last ≡ d) × (lead ≡ Some v.arrive)
      × ((level : Level) (chain : List Ride) → slice_get levels k ≡ Some level → IsChain levels k level.best_stop chain → v.rides ≡ turned_onto chain []))
      same (last_is, lead_is, rides));
  stay = λ s e. absurd (no_some old s none e);
  all = λ arrive e. (o, is, inr (same_Some o.arrive arrive (sym lead_is ∙ e)));
}

pub record OpenState (levels : List Level) (leads : List (Option ℕ)) (d k : ℕ) (start pending : List (Option OpenSpan)) : Type 0 where
  pub many : length pending ≡ length start
  pub done : (j : ℕ) (lead : Option ℕ) (old new : Option OpenSpan) → j < k → slice_get leads j ≡ Some lead → slice_get start j ≡ Some old → slice_get pending j ≡ Some new
      → IsOpeningOf levels j lead d old new
  pub rest : (j : ℕ) → k ≤ j → slice_get pending j ≡ slice_get start j

pub open_zero : (levels : List Level) (leads : List (Option ℕ)) (d : ℕ) (start : List (Option OpenSpan)) → OpenState levels leads d 0 start start
open_zero levels leads d start = record {
  many = refl;
  done = λ j lead old new lt at_lead at_old at_new. absurd (omega (arith, lt));
  rest = λ j le. refl;
}

pub open_more : (levels : List Level) (leads : List (Option ℕ)) (d k : ℕ) (start pending : List (Option OpenSpan)) (lead : Option ℕ) (old new : Option OpenSpan) → k < length pending
    → slice_get leads k ≡ Some lead → slice_get pending k ≡ Some old → IsOpeningOf levels k lead d old new
    → OpenState levels leads d k start pending → OpenState levels leads d (k + 1) start (set pending k new)
open_more levels leads d k start pending lead old new within is_lead is_old opening was = record {
  many = length-set pending k new ∙ was.many;
  done = λ j lead' old' new' lt at_lead at_old at_new. elim (cases_eq k j) [
    | inl e ↦
        let same_lead : lead ≡ lead' = same_Some lead lead' (sym is_lead ∙ ap (λ i. slice_get leads i) e ∙ at_lead) in
        let same_old : old ≡ old' = same_Some old old' (sym is_old ∙ was.rest k (omega arith) ∙ ap (λ i. slice_get start i) e ∙ at_old) in
        let same_new : new ≡ new' = same_Some new new' (sym (set_get pending k new within) ∙ ap (λ i. slice_get (set pending k new) i) e ∙ at_new) in
        subst (λ i. IsOpeningOf levels i lead' d old' new') e
        (subst (λ v. IsOpeningOf levels k v d old' new') same_lead
        (subst (λ v. IsOpeningOf levels k lead d v new') same_old
        (subst (λ v. IsOpeningOf levels k lead d old v) same_new opening)))
    | inr other ↦ was.done j lead' old' new' (omega (arith, lt, other)) at_lead at_old (sym (set_get_other pending k j new other) ∙ at_new)
  ];
  rest = λ j le. set_get_other pending k j new (λ e. omega (arith, e, le)) ∙ was.rest j (omega (arith, le));
}

some_at : {X : Type 0} (xs : List X) (k : ℕ) → k < length xs → (x : X) × (slice_get xs k ≡ Some x)
some_at [] k lt = absurd (omega (arith, lt))
some_at (x ∷ xs) zero lt = (x, refl)
some_at (x ∷ xs) (suc k) lt = some_at xs k (omega (arith, lt))

module _ (q : RangeQuery) (table : Table) (d : ℕ) (levels : List Level) (right : Right q table d levels)
    (bound : ℕ) (bound_is : MatchOption q.foot (bound ≡ 2 ^ 64 - 1) (λ seconds. bound ≡ d + seconds)) (early : d < 2 ^ 32 - 1)
    (leads : List (Option ℕ)) (many : length leads ≡ length levels)
    (exact : (k : ℕ) (level : Level) → slice_get levels k ≡ Some level → IsLeadOf (take k levels) bound level (slice_index_or leads k None))
    (before after : List (Option OpenSpan)) (before_many : length before ≡ length levels) (after_many : length after ≡ length levels)
    (kept : (k : ℕ) (s : OpenSpan) → slice_get before k ≡ Some (Some s) → slice_get leads k ≡ Some (Some s.arrive))
    (opened : (k : ℕ) (lead : Option ℕ) (old new : Option OpenSpan) → slice_get leads k ≡ Some lead → slice_get before k ≡ Some old
    → slice_get after k ≡ Some new → IsOpeningOf levels k lead d old new) where
  is_opened : (k : ℕ) (s : OpenSpan) → k < length levels → (s.last ≡ d) → slice_get leads k ≡ Some (Some s.arrive)
      → ((level : Level) (chain : List Ride) → slice_get levels k ≡ Some level → IsChain levels k level.best_stop chain → s.rides ≡ turned_onto chain [])
      → IsOpened q d leads k s
  is_opened k s lt last_is lead_is rides =
      let l : (l : Level) × (slice_get levels k ≡ Some l) = item_at levels k lt in
      go l.0 l.1 (lead_cases levels bound k l.0 (slice_index_or leads k None) (exact k l.0 l.1)) (get_or_from_slice_get leads k (Some s.arrive) None lead_is)
    where
      go : (l : Level) → slice_get levels k ≡ Some l → LeadCases levels bound k l (slice_index_or leads k None) → slice_index_or leads k None ≡ Some s.arrive → IsOpened q d leads k s
      go l is (LeadCases.late e le) read = absurd (no_some _ s.arrive e read)
      go l is (LeadCases.behind_one e j low below is_low le) read = absurd (no_some _ s.arrive e read)
      go l is (LeadCases.led e won) read =
          let arrive_is : l.best ≡ s.arrive = same_Some l.best s.arrive (sym e ∙ read) in
          let chain : (chain : List Ride) × IsChain levels k l.best_stop chain =
          best_chain q table d levels right k l is (omega (arith, won.before, bound_low q table d levels right bound bound_is early leads many exact)) in
          let has = led_listed q table d levels right bound bound_is early leads many exact k l is won chain.0 chain.1 in
          let rides_are : s.rides ≡ turned_onto chain.0 [] = rides l chain.0 is chain.1 in
          record {
            last_is = last_is;
            lead_is = lead_is;
            listed = subst (λ v. IsListed q.network q.first_row q.last_row q.list d v s.arrive) (sym rides_are)
                (subst (λ a. IsListed q.network q.first_row q.last_row q.list d (turned_onto chain.0 []) a) arrive_is has.0);
            many = ap length rides_are ∙ has.1;
          }

  opens_of : Opens q d leads before after
  opens_of = record {
    each = λ k s at.
        let lt : k < length levels = omega (arith, slice_get_within after k (Some s) at, after_many) in
        let lead : (x : Option ℕ) × (slice_get leads k ≡ Some x) = some_at leads k (omega (arith, lt, many)) in
        let old : (x : Option OpenSpan) × (slice_get before k ≡ Some x) = some_at before k (omega (arith, lt, before_many)) in
        elim ((opened k lead.0 old.0 (Some s) lead.1 old.1 at).each s refl) [
          | inl e ↦ inl (old.1 ∙ ap (λ v. Some v) e)
          | inr h ↦ inr (is_opened k s lt h.0 (lead.1 ∙ ap (λ v. Some v) h.1) h.2)
        ];
    stay = λ k s at.
        let lt : k < length levels = omega (arith, slice_get_within before k (Some s) at, before_many) in
        let lead : (x : Option ℕ) × (slice_get leads k ≡ Some x) = some_at leads k (omega (arith, lt, many)) in
        let new : (x : Option OpenSpan) × (slice_get after k ≡ Some x) = some_at after k (omega (arith, lt, after_many)) in
        new.1 ∙ ap (λ v. Some v) ((opened k lead.0 (Some s) new.0 lead.1 at new.1).stay s refl);
    all = λ k arrive at.
        let lt : k < length levels = omega (arith, slice_get_within leads k (Some arrive) at, many) in
        let old : (x : Option OpenSpan) × (slice_get before k ≡ Some x) = some_at before k (omega (arith, lt, before_many)) in
        let new : (x : Option OpenSpan) × (slice_get after k ≡ Some x) = some_at after k (omega (arith, lt, after_many)) in
        let a : (s : OpenSpan) × (new.0 ≡ Some s) × ((old.0 ≡ Some s) ⊎ (s.arrive ≡ arrive)) = (opened k (Some arrive) old.0 new.0 at old.1 new.1).all arrive refl in (
          a.0,
          new.1 ∙ ap (λ v. Some v) a.1,
          elim a.2 [
            | inl e ↦
                let led : slice_get leads k ≡ Some (Some a.0.arrive) = kept k a.0 (old.1 ∙ ap (λ v. Some v) e) in
                twice a.0.arrive arrive (sym led ∙ at)
            | inr e ↦ e
          ],
        );
  }
    where
      twice : (a b : ℕ) → Some (Some a) ≡ Some (Some b) → a ≡ b
      twice a b e = cc

  pub turned_stands : (last : ℕ) (was spans : List Span) → d ≤ last → BeginLater (d + 1) was
      → ((s : Span) → Contains spans s → Contains was s ⊎ ((s.first ≡ d + 1) × (IsLead leads (pair_of s) → ⊥)))
      → Stands q (d + 1) last before spans → Stands q d last after spans
  turned_stands last was spans within later closed stands =
      step_back q d last leads before after spans stands (tells q table d levels right bound bound_is early leads many exact) kept
      (λ s has first_is lead. elim (closed s has) [
        | inl old ↦ omega (arith, later s old, first_is)
        | inr new ↦ new.1 lead
      ]) opens_of within

pub turned_later : (d : ℕ) (leads : List (Option ℕ)) (was spans : List Span) → BeginLater (d + 1) was
    → ((s : Span) → Contains spans s → Contains was s ⊎ ((s.first ≡ d + 1) × (IsLead leads (pair_of s) → ⊥))) → BeginLater d spans
turned_later d leads was spans later closed s has = elim (closed s has) [
  | inl old ↦ omega (arith, later s old)
  | inr new ↦ omega (arith, new.0)
]
