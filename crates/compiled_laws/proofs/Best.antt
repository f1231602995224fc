-- The best listed pairs of a right value are those of all journeys.
use Rattle.std.proofs.Common.{◌≡◌, ℕ, ◌+◌, ◌⊎◌, List, [], ◌∷◌, length, refl, sym, ap, ◌∙◌, subst, inl, inr, arith, Option, Some, None}
use Rattle.move_model.specs.declared.network.Network.{Network}
use Rattle.move_model.specs.declared.network.NodeNo.{NodeNo}
use Rattle.move_model.specs.declared.journey.Pair.{Pair}
use Rattle.move_model.specs.declared.journey.Shortcut.{Shortcut}
use Rattle.move_model.specs.Streets.{Streets, IsDistance, HasDistance}
use Rattle.move_model.specs.Network.{streets}
use Rattle.move_model.specs.Journey.{Travels, HasPair, IsNoWorse, IsBest}
use Rattle.move_model.specs.Journey.Travels.{walks}
use Rattle.move_model.specs.Listed.{ListedSuffice, HasFoot, HasListedRides}
use Rattle.move_model.specs.Range.{HasFootPair, HasRidesPair, HasListedPair, IsListedBest}
use Rattle.pareto_laws.proofs.Distances.{distance_same}
use Rattle.pareto_laws.proofs.ParetoByRides.{pair_eq}

distance_known : (g : Streets) (a b : NodeNo) (o : Option ℕ) (m : ℕ) → HasDistance g a b o → IsDistance g a b m → o ≡ Some m
distance_known g a b None m none is = absurd (none is.attained.0 m is.attained.1)
distance_known g a b (Some l) m is' is = ap (λ k. Some k) (distance_same is' is)

module _ (n : Network) (list : List Shortcut) (s t : NodeNo) (first_row last_row : List (Option ℕ)) (foot : Option ℕ) (limit : ℕ)
    (suffice : ListedSuffice n s t first_row last_row list) (has_foot : HasDistance (streets n) s t foot) where
  foot_pair : (d : ℕ) (pair : Pair) → HasFootPair foot d pair → HasPair n s d t pair
  foot_pair d pair has =
      let is : IsDistance (streets n) s t has.seconds = subst (λ o. HasDistance (streets n) s t o) has.foot_is has_foot in
      record {
        journey = record { depart = d; walks = is.attained.0 ∷ []; rides = [] };
        departs = refl;
        arrives = subst (λ a. Travels n s d (is.attained.0 ∷ []) [] t a) (sym has.arrive_is) (walks is.attained.1);
        rides = sym has.no_trip;
      }

  rides_pair : (d : ℕ) (pair : Pair) → HasRidesPair n first_row last_row list d pair → HasPair n s d t pair
  rides_pair d pair has =
      let real = suffice.real d has.rides pair.arrive has.listed in
      record { journey = real.journey; departs = real.departs; arrives = real.leads; rides = ap length real.rides_are ∙ has.many }

  real_pair : (d : ℕ) (pair : Pair) → HasListedPair n first_row last_row list foot d pair → HasPair n s d t pair
  real_pair d pair has = elim has [ inl on_foot ↦ foot_pair d pair on_foot | inr by_rides ↦ rides_pair d pair by_rides ]

  record IsServed (d : ℕ) (pair : Pair) : Type 0 where
    other : Pair
    listed : HasListedPair n first_row last_row list foot d other
    no_worse : IsNoWorse other pair

  served : (d : ℕ) (pair : Pair) → HasPair n s d t pair → IsServed d pair
  served d pair has =
      elim (subst (λ e. HasFoot n s t e pair.arrive ⊎ HasListedRides n first_row last_row list e pair.arrive (length has.journey.rides)) has.departs
      (suffice.enough has.journey pair.arrive has.arrives)) [
        | inl f ↦ record {
          other = record { arrive = d + f.seconds; trips = 0 };
          listed = inl (record { seconds = f.seconds; foot_is = distance_known (streets n) s t foot f.seconds has_foot f.foot; arrive_is = refl; no_trip = refl });
          no_worse = (f.no_later, omega arith);
        }
        | inr h ↦ record {
          other = record { arrive = h.arrives; trips = length h.rides };
          listed = inr (record { rides = h.rides; listed = h.listed; many = refl });
          no_worse = (h.no_later, omega (arith, h.no_more, has.rides));
        }
      ]

  pub best_listed : (d : ℕ) (pair : Pair) → IsBest n s d t limit pair → IsListedBest n first_row last_row list foot d limit pair
  best_listed d pair best =
      let by = served d pair best.attained in
      let e : by.other ≡ pair = best.best by.other (omega (arith, by.no_worse.1, best.within)) (real_pair d by.other by.listed) by.no_worse in
      record {
        within = best.within;
        attained = subst (λ p. HasListedPair n first_row last_row list foot d p) e by.listed;
        best = λ other few has no_worse. best.best other few (real_pair d other has) no_worse;
      }

  pub listed_best : (d : ℕ) (pair : Pair) → IsListedBest n first_row last_row list foot d limit pair → IsBest n s d t limit pair
  listed_best d pair best =
      record {
        within = best.within;
        attained = real_pair d pair best.attained;
        best = λ other few has no_worse.
            let by = served d other has in
            let e : by.other ≡ pair = best.best by.other (omega (arith, by.no_worse.1, few)) by.listed
            (omega (arith, by.no_worse.0, no_worse.0), omega (arith, by.no_worse.1, no_worse.1)) in
            pair_eq other pair
            (omega (arith, ap (λ (p : Pair). p.arrive) e, by.no_worse.0, no_worse.0))
            (omega (arith, ap (λ (p : Pair). p.trips) e, by.no_worse.1, no_worse.1));
      }
