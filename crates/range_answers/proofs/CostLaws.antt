-- The walks of the journeys of a range, and the searches that they cost.
use Rattle.std.proofs.Common.{◌≡◌, ◌∙◌, ℕ, ◌+◌, ◌≤◌, List, [], ◌∷◌, map, length, refl, sym, ap, arith, Option}
use Rattle.std.specs.Prelude.{All, sum_by}
use Rattle.std.proofs.lemmas.List.Elements.{All-head, All-tail}
use Rattle.std.proofs.lemmas.List.Sums.{sum_by-cons}
use Rattle.pareto_laws.proofs.RangeUnique.{listed_ranges_unique}
use Rattle.move_model.specs.declared.network.Network.{Network}
use Rattle.move_model.specs.declared.network.NodeNo.{NodeNo}
use Rattle.move_model.specs.declared.journey.Span.{Span}
use Rattle.move_model.specs.declared.journey.Shortcut.{Shortcut}
use Rattle.move_model.specs.declared.journey.Profile.{Profile}
use Rattle.move_model.specs.Range.{CarriesRides, IsListedRange, without_rides, outline}
use Rattle.network_file.specs.declared.compiled.Compiled.{Compiled}
use Rattle.network_file.specs.Answers.{Sums, AreLeastSums}
use Rattle.range_answers.specs.Range.{walks_on_foot, walks_within, IsSearchedWithin}

abbrev by_rides : List Span → ℕ
by_rides spans = sum_by (λ (span : Span). length span.rides + 1) spans

abbrev by_trips : List Span → ℕ
by_trips spans = sum_by (λ (span : Span). span.trips + 1) spans

rides_cons : (span : Span) (spans : List Span) → by_rides (span ∷ spans) ≡ length span.rides + 1 + by_rides spans
rides_cons span spans = sum_by-cons (λ (x : Span). length x.rides + 1) span spans

trips_cons : (span : Span) (spans : List Span) → by_trips (span ∷ spans) ≡ span.trips + 1 + by_trips spans
trips_cons span spans = sum_by-cons (λ (x : Span). x.trips + 1) span spans

-- a span has as many rides as trips
same_walks : (n : Network) (first last : List (Option ℕ)) (list : List Shortcut) (spans : List Span) → All (CarriesRides n first last list) spans
    → by_rides spans ≡ by_trips spans
same_walks n first last list [] carry = refl
same_walks n first last list (span ∷ spans) carry =
    let here : length span.rides ≡ span.trips = (All-head (CarriesRides n first last list) span spans carry).many in
    let rest : by_rides spans ≡ by_trips spans = same_walks n first last list spans (All-tail (CarriesRides n first last list) span spans carry) in
    omega (arith, rides_cons span spans, trips_cons span spans, here, rest)

outlined : (spans : List Span) → by_trips (map without_rides spans) ≡ by_trips spans
outlined [] = refl
outlined (span ∷ spans) = omega (arith, trips_cons (without_rides span) (map without_rides spans), trips_cons span spans, outlined spans)

same_outline : (p q : Profile) → outline p ≡ outline q → walks_within p ≡ walks_within q
same_outline p q e =
    ap (λ k. walks_on_foot p.foot + k) (sym (outlined p.spans)) ∙ ap walks_within e ∙ ap (λ k. walks_on_foot q.foot + k) (outlined q.spans)

module _ (c : Compiled) (s t : NodeNo) (sums : Sums) (least : AreLeastSums c s t sums) (limit first last : ℕ) where
  pub range_searched : (before between after : ℕ) (profile : Profile) → between ≡ before + 3
      → IsListedRange c.network sums.first sums.last c.shortcuts sums.foot limit first last profile
      → All (CarriesRides c.network sums.first sums.last c.shortcuts) profile.spans
      → after ≤ between + (walks_on_foot sums.foot + by_rides profile.spans) → IsSearchedWithin c s t limit first last before after
  range_searched before between after profile three range carry few =
      let here : walks_on_foot sums.foot + by_rides profile.spans ≡ walks_within profile =
      ap (λ o. walks_on_foot o + by_rides profile.spans) (sym range.foot_is)
      ∙ ap (λ k. walks_on_foot profile.foot + k) (same_walks c.network sums.first sums.last c.shortcuts profile.spans carry) in
      record {
        sums = sums;
        least = least;
        few = λ other is.
            omega (
              arith,
              three,
              few,
              here,
              same_outline profile other (listed_ranges_unique c.network c.shortcuts sums.first sums.last sums.foot limit first last profile other range is),
            );
      }
