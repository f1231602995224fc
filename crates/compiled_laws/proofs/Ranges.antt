-- The spans that a right value finds are those of the range.
use Rattle.std.proofs.Common.{◌≡◌, ◌∙◌, ℕ, ◌≤◌, ◌⊎◌, List, map, sym, ap, subst, inl, inr, Option, Some, None}
use Rattle.std.specs.Prelude.{Contains, IfSome}
use Rattle.std.proofs.lemmas.List.Elements.{All-weaker, All-contains}
use Rattle.move_model.specs.declared.network.NodeNo.{NodeNo}
use Rattle.move_model.specs.declared.journey.Pair.{Pair}
use Rattle.move_model.specs.declared.journey.Finding.{Finding}
use Rattle.move_model.specs.declared.journey.Span.{Span}
use Rattle.move_model.specs.declared.journey.SpanFinding.{SpanFinding}
use Rattle.move_model.specs.Streets.{IsVertex, HasDistance}
use Rattle.move_model.specs.Network.{streets}
use Rattle.move_model.specs.Range.{HasSpanPair, IsOffered, IsSpanWithin, IsRange, without_rides, pair_of}
use Rattle.move_model.specs.Found.{IsFound, IsRangeAnswer, span_of}
use Rattle.pareto_laws.proofs.RangeByListed.{range_by_listed_lem}
use Rattle.network_file.specs.declared.compiled.Compiled.{Compiled}
use Rattle.network_file.specs.Compiled.{IsRight}
use Rattle.network_file.specs.Answers.{IsMade, IsLeftOut, IsListedSpans, outlines}
use Rattle.compiled_laws.proofs.Lists.{Contains-map, All-from_contains, image_of}
use Rattle.compiled_laws.proofs.Rows.{foot_is, suffice}
use Rattle.compiled_laws.proofs.Points.{none_left_out, made_exact}

-- spans offer a pair by their outlines alone
offered_outline : (xs ys : List Span) → ((span : Span) → Contains (outlines xs) span → Contains (outlines ys) span)
    → (d : ℕ) (pair : Pair) → HasSpanPair xs d pair → HasSpanPair ys d pair
offered_outline xs ys sub d pair has =
    let there = image_of without_rides ys (without_rides has.span) (sub (without_rides has.span) (Contains-map without_rides xs has.span has.is_span)) in
    record {
      span = there.item;
      is_span = there.has;
      covers = (
        subst (λ (k : ℕ). k ≤ d) (sym (ap (λ (x : Span). x.first) there.is)) has.covers.0,
        subst (λ (k : ℕ). d ≤ k) (sym (ap (λ (x : Span). x.last) there.is)) has.covers.1,
      );
      pair_is = ap pair_of there.is ∙ has.pair_is;
    }

offered : (xs ys : List Span) → ((span : Span) → Contains (outlines xs) span → Contains (outlines ys) span)
    → (foot : Option ℕ) (d : ℕ) (pair : Pair) → IsOffered foot xs d pair → IsOffered foot ys d pair
offered xs ys sub foot d pair (inl on_foot) = inl on_foot
offered xs ys sub foot d pair (inr has) = inr (offered_outline xs ys sub d pair has)

within_outline : (first last : ℕ) (a b : Span) → without_rides a ≡ without_rides b → IsSpanWithin first last a → IsSpanWithin first last b
within_outline first last a b same is =
    let out : IsSpanWithin first last (without_rides a) = record { some_trip = is.some_trip; begins = is.begins; some_second = is.some_second; ends = is.ends } in
    let there : IsSpanWithin first last (without_rides b) = subst (IsSpanWithin first last) same out in
    record { some_trip = there.some_trip; begins = there.begins; some_second = there.some_second; ends = there.ends }

pub range_exact : (c : Compiled) (s t : NodeNo) (limit first last : ℕ) (foot : Option Finding) (spans : List SpanFinding)
    → IsRight c → IsVertex (streets c.network) s → IsVertex (streets c.network) t
    → IsListedSpans c s t limit first last foot spans → IsRangeAnswer c.network s t limit first last foot spans
range_exact c s t limit first last foot spans right at_s at_t is =
    let enough = suffice c right s t at_s at_t is.sums is.least in
    let far = foot_is c right s t at_s at_t is.sums is.least in
    let found : List Span = map span_of spans in
    let whole : IsRange c.network s t limit first last is.profile =
    range_by_listed_lem c.network c.shortcuts s t is.sums.first is.sums.last is.sums.foot limit enough far first last is.profile is.range in
    let into : (span : Span) → Contains (outlines found) span → Contains (outlines is.profile.spans) span =
    λ span has. All-contains (Contains (outlines is.profile.spans)) (outlines found) span is.best has in
    let from : (span : Span) → Contains (outlines is.profile.spans) span → Contains (outlines found) span =
    λ span has. elim (All-contains (λ x. Contains (outlines found) x ⊎ IsLeftOut c is.sums s x.last t (pair_of x)) (outlines is.profile.spans) span is.whole has) [
      | inl h ↦ h
      | inr out ↦ absurd (none_left_out c right s t at_s at_t is.sums is.least span.last (pair_of span) out)
    ] in
    record {
      range = record {
        foot = subst (λ o. HasDistance (streets c.network) s t o) (sym is.on_foot) far;
        spans = record {
          within = All-from_contains (IsSpanWithin first last) found (λ span has.
              let there = image_of without_rides is.profile.spans (without_rides span) (into (without_rides span) (Contains-map without_rides found span has)) in
              within_outline first last there.item span there.is (All-contains (IsSpanWithin first last) is.profile.spans there.item whole.spans.within there.has));
          exact = λ d after before pair.
              let same = whole.spans.exact d after before pair in (
                λ has. same.0 (subst (λ o. IsOffered o is.profile.spans d pair) (sym is.range.foot_is)
                    (offered found is.profile.spans into is.sums.foot d pair (subst (λ o. IsOffered o found d pair) is.on_foot has))),
                λ best. subst (λ o. IsOffered o found d pair) (sym is.on_foot)
                    (offered is.profile.spans found from is.sums.foot d pair (subst (λ o. IsOffered o is.profile.spans d pair) is.range.foot_is (same.1 best))),
              );
          one_each = is.one_each;
          in_order = is.in_order;
        };
      };
      on_foot = is.no_trip;
      foot_real = foot_exact foot is.foot_made;
      real = All-weaker (λ f. IsMade c is.sums s f.last t f.finding) (λ f. IsFound c.network s f.last t f.finding)
          (λ f made. made_exact c right s t at_s at_t is.sums is.least f.last f.finding made) spans is.made;
    }
  where
    foot_exact : (o : Option Finding) → IfSome o (IsMade c is.sums s first t) → IfSome o (IsFound c.network s first t)
    foot_exact None made = made
    foot_exact (Some finding) made = made_exact c right s t at_s at_t is.sums is.least first finding made
