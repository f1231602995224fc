-- The walk on foot of a range.
use Rattle.std.proofs.Common.{◌≡◌, ◌∙◌, ℕ, ◌+◌, ◌-◌, List, [], refl, sym, ap, subst, inl, arith, Option, Some, None}
use Rattle.std.specs.Prelude.{MatchOption}
use Rattle.move_model.specs.declared.network.NodeNo.{NodeNo}
use Rattle.move_model.specs.declared.journey.Ride.{Ride}
use Rattle.move_model.specs.declared.journey.Pair.{Pair}
use Rattle.move_model.specs.declared.journey.Finding.{Finding}
use Rattle.walk_laws.specs.Sums.{HasLeast}
use Rattle.walk_hierarchy.specs.Hierarchy.{IsUpDownSum}
use Rattle.journey_build.specs.Built.{IsBuilt, IsBroken}
use Rattle.journey_build.specs.Built.IsBroken.{at_end}
use Rattle.network_file.specs.declared.compiled.Compiled.{Compiled}
use Rattle.network_file.specs.Answers.{Sums, AreLeastSums, Attains}
use Rattle.range_answers.specs.Spans.{IsFinding, IsFoot}

module _ (c : Compiled) (sums : Sums) (s : NodeNo) (first : ℕ) (t : NodeNo) where
  pub no_foot : sums.foot ≡ None → IsFoot c sums s first t None
  no_foot none = record { on_foot = sym none; no_trip = tt; made = tt }

  -- the finding of a walk without rides
  foot_of : (m : ℕ) (finding : Finding) → sums.foot ≡ Some m → IsFinding c s first [] t (record { arrive = first + m; trips = 0 }) finding
      → IsFoot c sums s first t (Some finding)
  foot_of m finding foot is =
      let pair : Pair = record { arrive = first + m; trips = 0 } in
      let arrives : finding.pair.arrive ≡ first + m = ap (λ (p : Pair). p.arrive) is.pair_is in
      let far : finding.pair.arrive - first ≡ m = omega (arith, arrives) in
      let walk : Attains c sums first [] pair = inl (refl, record { seconds = m; foot_is = foot; arrive_is = refl; no_trip = refl }) in
      let rides : [] ≡ finding.journey.rides = sym is.built.same_rides in
      record {
        on_foot = ap (λ k. Some k) far ∙ sym foot;
        no_trip = ap (λ (p : Pair). p.trips) is.pair_is;
        made = record {
          attains = subst (λ (p : Pair). Attains c sums first finding.journey.rides p) (sym is.pair_is) (subst (λ (rs : List Ride). Attains c sums first rs pair) rides walk);
          built = subst (λ (rs : List Ride). IsBuilt c.network c.hierarchy s first rs t finding.journey) rides is.built;
        };
      }

  never_broken : (m : ℕ) → sums.foot ≡ Some m → AreLeastSums c s t sums → IsBroken c.network c.hierarchy s first [] t → ⊥
  never_broken m foot least broken =
      let is : HasLeast (IsUpDownSum c.hierarchy s t) (Some m) = subst (λ (o : Option ℕ). HasLeast (IsUpDownSum c.hierarchy s t) o) foot least.foot in
      nowhere broken is.attained
    where
      nowhere : IsBroken c.network c.hierarchy s first [] t → IsUpDownSum c.hierarchy s t m → ⊥
      nowhere (at_end none) is = none m is

  pub found_foot : (m arrive : ℕ) (rides : List Ride) (made : Option Finding) → sums.foot ≡ Some m → AreLeastSums c s t sums → arrive ≡ first + m → rides ≡ []
      → MatchOption made (IsBroken c.network c.hierarchy s first rides t) (IsFinding c s first rides t (record { arrive = arrive; trips = 0 }))
      → IsFoot c sums s first t made
  found_foot m arrive rides (Some finding) foot least arrive_is no_ride is =
      foot_of m finding foot
      (subst (λ (rs : List Ride). IsFinding c s first rs t (record { arrive = first + m; trips = 0 }) finding) no_ride
      (subst (λ (a : ℕ). IsFinding c s first rides t (record { arrive = a; trips = 0 }) finding) arrive_is is))
  found_foot m arrive rides None foot least arrive_is no_ride broken =
      absurd (never_broken m foot least (subst (λ (rs : List Ride). IsBroken c.network c.hierarchy s first rs t) no_ride broken))
