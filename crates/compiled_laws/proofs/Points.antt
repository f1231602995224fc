-- Nothing that a right value finds is left out, and each finding is exact.
use Rattle.std.proofs.Common.{◌≡◌, ◌∙◌, ℕ, ◌⊎◌, List, length, refl, sym, ap, subst, inl, inr}
use Rattle.std.specs.Prelude.{All, Contains}
use Rattle.std.proofs.lemmas.List.Elements.{All-weaker, All-contains}
use Rattle.move_model.specs.declared.network.NodeNo.{NodeNo}
use Rattle.move_model.specs.declared.journey.Ride.{Ride}
use Rattle.move_model.specs.declared.journey.Pair.{Pair}
use Rattle.move_model.specs.declared.journey.Finding.{Finding}
use Rattle.move_model.specs.Streets.{IsVertex, IsDistance, HasDistance}
use Rattle.move_model.specs.Network.{streets}
use Rattle.move_model.specs.Journey.{Travels}
use Rattle.move_model.specs.Found.{IsLeastWalk, IsFound, IsPointAnswer}
use Rattle.journey_build.specs.Built.{IsLeastWay}
use Rattle.journey_build.proofs.BrokenLaws.{least_walk}
use Rattle.network_file.specs.declared.compiled.Compiled.{Compiled}
use Rattle.network_file.specs.Compiled.{IsRight}
use Rattle.network_file.specs.Answers.{Sums, AreLeastSums, IsListedPair, Attains, IsMade, IsLeftOut, IsListedPoint, pairs_of}
use Rattle.compiled_laws.proofs.Rows.{is_network, foot_is, last_holds, suffice}
use Rattle.compiled_laws.proofs.Best.{best_listed, listed_best}
use Rattle.compiled_laws.proofs.Travelling.{by_least_walks, arrives_as_listed, arrives_on_foot}

module _ (c : Compiled) (right : IsRight c) (s t : NodeNo) (at_s : IsVertex (streets c.network) s) (at_t : IsVertex (streets c.network) t)
    (sums : Sums) (least : AreLeastSums c s t sums) where
  pub none_left_out : (d : ℕ) (pair : Pair) → IsLeftOut c sums s d t pair → ⊥
  none_left_out d pair out =
      let real = (suffice c right s t at_s at_t sums least).real d out.rides pair.arrive out.attains.0 in
      let rides_are : Travels c.network s d real.journey.walks out.rides t pair.arrive =
      subst (λ rs. Travels c.network s d real.journey.walks rs t pair.arrive) real.rides_are
      (subst (λ (e : ℕ). Travels c.network s e real.journey.walks real.journey.rides t pair.arrive) real.departs real.leads) in
      let by = by_least_walks c.network (is_network c right s t at_s at_t sums least) c.hierarchy right.walks rides_are in
      out.none (record { depart = d; walks = by.ways; rides = out.rides })
      (record { departs = refl; same_rides = refl; arrive = by.arrive; leads = by.leads; walks = by.least })

  arrives : (d a : ℕ) (rs : List Ride) (ws : List (List NodeNo)) (pair : Pair) → Travels c.network s d ws rs t a → All (IsLeastWalk (streets c.network)) ws
      → Attains c sums d rs pair → a ≡ pair.arrive
  arrives d a rs ws pair leads walks (inl (no_ride, foot)) =
      let far : IsDistance (streets c.network) s t foot.seconds =
      subst (λ o. HasDistance (streets c.network) s t o) foot.foot_is (foot_is c right s t at_s at_t sums least) in
      arrives_on_foot c.network (is_network c right s t at_s at_t sums least) (subst (λ xs. Travels c.network s d ws xs t a) no_ride leads) walks far ∙ sym foot.arrive_is
  arrives d a rs ws pair leads walks (inr (listed, many)) =
      arrives_as_listed c.network (is_network c right s t at_s at_t sums least) t sums.last c.shortcuts (last_holds c right s t at_s at_t sums least) leads walks listed

  many_rides : (d : ℕ) (rs : List Ride) (pair : Pair) → Attains c sums d rs pair → length rs ≡ pair.trips
  many_rides d rs pair (inl (no_ride, foot)) = ap length no_ride ∙ sym foot.no_trip
  many_rides d rs pair (inr (listed, many)) = many

  pub made_exact : (d : ℕ) (finding : Finding) → IsMade c sums s d t finding → IsFound c.network s d t finding
  made_exact d finding made =
      let walks : All (IsLeastWalk (streets c.network)) finding.journey.walks =
      All-weaker (IsLeastWay (streets c.network) c.hierarchy) (IsLeastWalk (streets c.network))
      (least_walk c.network c.hierarchy (is_network c right s t at_s at_t sums least) right.walks) finding.journey.walks made.built.ways in
      let at_d : Travels c.network s d finding.journey.walks finding.journey.rides t made.built.arrive =
      subst (λ (e : ℕ). Travels c.network s e finding.journey.walks finding.journey.rides t made.built.arrive) made.built.departs made.built.leads in
      record {
        departs = made.built.departs;
        arrives =
            subst (λ (a : ℕ). Travels c.network s finding.journey.depart finding.journey.walks finding.journey.rides t a)
            (arrives d made.built.arrive finding.journey.rides finding.journey.walks finding.pair at_d walks made.attains) made.built.leads;
        rides = many_rides d finding.journey.rides finding.pair made.attains;
        least_walks = walks;
      }

  module _ (d limit : ℕ) (found : List Finding) where
    not_out : (pair : Pair) → Contains (pairs_of found) pair ⊎ IsLeftOut c sums s d t pair → Contains (pairs_of found) pair
    not_out pair (inl has) = has
    not_out pair (inr out) = absurd (none_left_out d pair out)

pub point_exact : (c : Compiled) (s t : NodeNo) (d limit : ℕ) (found : List Finding) → IsRight c → IsVertex (streets c.network) s → IsVertex (streets c.network) t
    → IsListedPoint c s d t limit found → IsPointAnswer c.network s d t limit found
point_exact c s t d limit found right at_s at_t is =
    let enough = suffice c right s t at_s at_t is.sums is.least in
    let foot = foot_is c right s t at_s at_t is.sums is.least in
    record {
      pareto = record {
        exact = λ pair. (
          λ has. listed_best c.network c.shortcuts s t is.sums.first is.sums.last is.sums.foot limit enough foot d pair
              (All-contains (IsListedPair c is.sums d limit) (pairs_of found) pair is.best has),
          λ best. not_out c right s t at_s at_t is.sums is.least d limit found pair
              (is.whole pair (best_listed c.network c.shortcuts s t is.sums.first is.sums.last is.sums.foot limit enough foot d pair best)),
        );
        rising = is.rising;
      };
      real = All-weaker (IsMade c is.sums s d t) (IsFound c.network s d t) (made_exact c right s t at_s at_t is.sums is.least d) found is.made;
    }
