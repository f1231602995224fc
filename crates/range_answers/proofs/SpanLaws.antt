-- The spans that are found are those of the range, but for those that are left out.
use Rattle.std.proofs.Common.{◌≡◌, ◌∙◌, ℕ, ◌⊎◌, List, [], ◌∷◌, ◌++◌, map, sym, subst, inl, inr, arith}
use Rattle.std.specs.Prelude.{All, AllPairs, Contains}
use Rattle.std.proofs.lemmas.List.Elements.{All-nil, All-cons, All-head, All-tail, All-map, All-weaker}
use Rattle.std.proofs.lemmas.List.Kept.{AllPairs-cons}
use Rattle.pareto_laws.proofs.LeastArcs.{Contains-here, Contains-later, Contains-cons_cases}
use Rattle.pareto_laws.proofs.Lexicographic.{IsLess-trans}
use Rattle.move_model.specs.declared.network.NodeNo.{NodeNo}
use Rattle.move_model.specs.declared.journey.Ride.{Ride}
use Rattle.move_model.specs.declared.journey.Finding.{Finding}
use Rattle.move_model.specs.declared.journey.Span.{Span}
use Rattle.move_model.specs.declared.journey.SpanFinding.{SpanFinding}
use Rattle.move_model.specs.declared.journey.Profile.{Profile}
use Rattle.move_model.specs.Shortcut.{IsLess}
use Rattle.move_model.specs.Range.{CarriesRides, IsListedRange, pair_of, without_rides}
use Rattle.move_model.specs.Found.{span_of}
use Rattle.compiled_laws.proofs.Lists.{Contains-map, All-from_contains}
use Rattle.compiled_laws.proofs.Others.{no_journey}
use Rattle.journey_build.specs.Built.{IsBuilt}
use Rattle.network_file.specs.declared.compiled.Compiled.{Compiled}
use Rattle.network_file.specs.Answers.{Sums, AreLeastSums, IsMade, IsLeftOut, IsListedSpans, outlines}
use Rattle.range_answers.specs.declared.found.RangeFindings.{RangeFindings}
use Rattle.range_answers.specs.Spans.{IsFinding, IsSpanFound, IsSpanBroken, AddsSpan, AreFound, IsRangeFound}
use Rattle.range_answers.specs.Spans.AddsSpan.{one, left_out}
use Rattle.range_answers.specs.Spans.AreFound.{none, one_more, one_out}
use Rattle.range_answers.proofs.PairLists.{pairs_tail, pairs_head, pairs_from_adjacent, adjacent_from_pairs}

module _ (c : Compiled) (s t : NodeNo) where
  -- one span more

  pub span_found : (span : Span) (finding : Finding) → IsFinding c s span.last span.rides t (record { arrive = span.arrive; trips = span.trips }) finding
      → IsSpanFound c s t span (record { first = span.first; last = span.last; finding = finding })
  span_found span finding is =
      record {
        span_is = λ i. record { first = span.first; last = span.last; trips = (is.pair_is i).trips; arrive = (is.pair_is i).arrive; rides = is.built.same_rides i };
        built = subst (λ (rides : List Ride). IsBuilt c.network c.hierarchy s span.last rides t finding.journey) (sym is.built.same_rides) is.built;
      }

  push_found : {spans : List Span} {all : List SpanFinding} → AreFound c s t spans all → (span : Span) (found : SpanFinding) → IsSpanFound c s t span found
      → AreFound c s t (spans ++ span ∷ []) (all ++ found ∷ [])
  push_found none span found is = one_more is none
  push_found (one_more first rest) span found is = one_more first (push_found rest span found is)
  push_found (one_out broken rest) span found is = one_out broken (push_found rest span found is)

  push_out : {spans : List Span} {all : List SpanFinding} → AreFound c s t spans all → (span : Span) → IsSpanBroken c s t span
      → AreFound c s t (spans ++ span ∷ []) all
  push_out none span is = one_out is none
  push_out (one_more first rest) span is = one_more first (push_out rest span is)
  push_out (one_out broken rest) span is = one_out broken (push_out rest span is)

  pub found_more : (spans : List Span) (old new : List SpanFinding) (span : Span) → AreFound c s t spans old → AddsSpan c s t span old new
      → AreFound c s t (spans ++ span ∷ []) new
  found_more spans old new span so_far (one {found = found} is new_is) =
      subst (λ fs. AreFound c s t (spans ++ span ∷ []) fs) (sym new_is) (push_found so_far span found is)
  found_more spans old new span so_far (left_out broken new_is) =
      subst (λ fs. AreFound c s t (spans ++ span ∷ []) fs) (sym new_is) (push_out so_far span broken)

  -- each is a span of the range, and they keep its order

  member : {spans : List Span} {all : List SpanFinding} → AreFound c s t spans all → (y : Span) → Contains (map span_of all) y → Contains spans y
  member none y has = absurd (omega (arith, has.1))
  member (one_more {span = span} {found = found} {spans = spans} {all = all} is rest) y has =
      elim (Contains-cons_cases (span_of found) (map span_of all) y has) [
        | inl e ↦ subst (λ v. Contains (span ∷ spans) v) (sym is.span_is ∙ e) (Contains-here span spans)
        | inr later ↦ Contains-later span spans y (member rest y later)
      ]
  member (one_out {span = span} {spans = spans} broken rest) y has = Contains-later span spans y (member rest y has)

  found_pairs : (R : Span → Span → Type 0) {spans : List Span} {all : List SpanFinding} → AreFound c s t spans all → AllPairs R spans → AllPairs R (map span_of all)
  found_pairs R none pairs = λ i j d lt within. absurd (omega (arith, within))
  found_pairs R (one_more {span = span} {found = found} {spans = spans} {all = all} is rest) pairs =
      AllPairs-cons R (span_of found) (map span_of all)
      (All-from_contains (R (span_of found)) (map span_of all)
      (λ y has. subst (λ x. R x y) (sym is.span_is) (pairs_head R span spans pairs y (member rest y has))))
      (found_pairs R rest (pairs_tail R span spans pairs))
  found_pairs R (one_out {span = span} {spans = spans} broken rest) pairs = found_pairs R rest (pairs_tail R span spans pairs)

  module _ (sums : Sums) where
    abbrev Carries : Span → Type 0
    Carries span = CarriesRides c.network sums.first sums.last c.shortcuts span

    abbrev Made : SpanFinding → Type 0
    Made found = IsMade c sums s found.last t found.finding

    made_of : (span : Span) (found : SpanFinding) → IsSpanFound c s t span found → Carries span → Made found
    made_of span found is carries =
        let there : Carries (span_of found) = subst Carries (sym is.span_is) carries in
        record { attains = inr (there.listed, there.many); built = is.built }

    made_all : {spans : List Span} {all : List SpanFinding} → AreFound c s t spans all → All Carries spans → All Made all
    made_all none carry = All-nil Made
    made_all (one_more {span = span} {found = found} {spans = spans} {all = all} is rest) carry =
        All-cons Made found all (made_of span found is (All-head Carries span spans carry)) (made_all rest (All-tail Carries span spans carry))
    made_all (one_out {span = span} {spans = spans} broken rest) carry = made_all rest (All-tail Carries span spans carry)

    abbrev IsGiven : List SpanFinding → Span → Type 0
    IsGiven all span = Contains (outlines (map span_of all)) span ⊎ IsLeftOut c sums s span.last t (pair_of span)

    given_later : (found : SpanFinding) (all : List SpanFinding) (span : Span) → IsGiven all span → IsGiven (found ∷ all) span
    given_later found all span (inl has) = inl (Contains-later (without_rides (span_of found)) (outlines (map span_of all)) span has)
    given_later found all span (inr out) = inr out

    out_of : (span : Span) → IsSpanBroken c s t span → Carries span → IsLeftOut c sums s span.last t (pair_of span)
    out_of span broken carries =
        record { rides = span.rides; attains = (carries.listed, carries.many); none = no_journey c s span.last span.rides t broken }

    whole : {spans : List Span} {all : List SpanFinding} → AreFound c s t spans all → All Carries spans → All (λ span. IsGiven all (without_rides span)) spans
    whole none carry = All-nil (λ span. IsGiven [] (without_rides span))
    whole (one_more {span = span} {found = found} {spans = spans} {all = all} is rest) carry =
        All-cons (λ x. IsGiven (found ∷ all) (without_rides x)) span spans
        (inl (subst (λ x. Contains (outlines (map span_of (found ∷ all))) (without_rides x)) is.span_is
        (Contains-here (without_rides (span_of found)) (outlines (map span_of all)))))
        (All-weaker (λ x. IsGiven all (without_rides x)) (λ x. IsGiven (found ∷ all) (without_rides x)) (λ x given. given_later found all (without_rides x) given) spans
        (whole rest (All-tail Carries span spans carry)))
    whole (one_out {span = span} {spans = spans} {all = all} broken rest) carry =
        All-cons (λ x. IsGiven all (without_rides x)) span spans (inr (out_of span broken (All-head Carries span spans carry)))
        (whole rest (All-tail Carries span spans carry))

    abbrev Before : Span → Span → Type 0
    Before a b = IsLess (a.first ∷ a.trips ∷ []) (b.first ∷ b.trips ∷ [])

    before_trans : (x y z : Span) → Before x y → Before y z → Before x z
    before_trans x y z = IsLess-trans (x.first ∷ x.trips ∷ []) (y.first ∷ y.trips ∷ []) (z.first ∷ z.trips ∷ [])

    pub listed_spans : (least : AreLeastSums c s t sums) (limit first last : ℕ) (profile : Profile) (found : RangeFindings)
        → IsListedRange c.network sums.first sums.last c.shortcuts sums.foot limit first last profile → All Carries profile.spans
        → IsRangeFound c sums s first t profile.spans found → IsListedSpans c s t limit first last found.foot found.spans
    listed_spans least limit first last profile found range carry is =
        let all : List SpanFinding = found.spans in
        let are : AreFound c s t profile.spans all = is.by_rides in
        record {
          sums = sums;
          least = least;
          on_foot = is.foot.on_foot;
          no_trip = is.foot.no_trip;
          foot_made = is.foot.made;
          profile = profile;
          range = range;
          best =
              All-map (Contains (outlines profile.spans)) without_rides (map span_of all)
              (All-from_contains (λ y. Contains (outlines profile.spans) (without_rides y)) (map span_of all)
              (λ y has. Contains-map without_rides profile.spans y (member are y has)));
          made = made_all are carry;
          whole = All-map (IsGiven all) without_rides profile.spans (whole are carry);
          one_each = found_pairs (λ a b. pair_of a ≡ pair_of b → ⊥) are range.spans.one_each;
          in_order =
              adjacent_from_pairs Before (map span_of all)
              (found_pairs Before are (pairs_from_adjacent Before before_trans profile.spans range.spans.in_order));
        }
