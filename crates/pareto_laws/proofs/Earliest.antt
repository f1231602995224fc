-- The earliest arrival with at most k rides is the earlier of the walk on foot and of the best listed journey.
use Rattle.std.proofs.Common.{ℕ, ◌+◌, ◌⊎◌, List, [], ◌∷◌, length, refl, ap, subst, inl, inr, arith, Option, Some, None}
use Rattle.std.proofs.lemmas.Bool.{cases_lt}
use Rattle.move_model.specs.declared.network.Network.{Network}
use Rattle.move_model.specs.declared.network.NodeNo.{NodeNo}
use Rattle.move_model.specs.declared.journey.Shortcut.{Shortcut}
use Rattle.move_model.specs.Streets.{IsDistance, HasDistance}
use Rattle.move_model.specs.Network.{streets}
use Rattle.move_model.specs.Journey.{HasArrival, HasEarliest}
use Rattle.move_model.specs.Journey.Travels.{walks}
use Rattle.move_model.specs.Listed.{HasBest, HasListedArrival, earlier, ListedSuffice, HasFoot, HasListedRides}
use Rattle.pareto_laws.proofs.Distances.{distance_same}

module _ (n : Network) (list : List Shortcut) (s t : NodeNo) (first last : List (Option ℕ)) (d k : ℕ)
    (suffice : ListedSuffice n s t first last list) where
  listed_arrival : (arrive : ℕ) → HasListedArrival n first last list d k arrive → HasArrival n s d t k arrive
  listed_arrival arrive has =
      let real = suffice.real d has.rides arrive has.listed in
      record { journey = real.journey; departs = real.departs; leads = real.leads; few = omega (arith, has.few, ap length real.rides_are) }

  foot_arrival : (foot : ℕ) → IsDistance (streets n) s t foot → HasArrival n s d t k (d + foot)
  foot_arrival foot is =
      record {
        journey = record { depart = d; walks = is.attained.0 ∷ []; rides = [] };
        departs = refl;
        leads = walks is.attained.1;
        few = omega arith;
      }

  -- on foot or listed, no later
  by_either : (arrive : ℕ) → HasArrival n s d t k arrive → HasFoot n s t d arrive ⊎ HasListedRides n first last list d arrive k
  by_either arrive has =
      subst (λ e. HasFoot n s t e arrive ⊎ HasListedRides n first last list e arrive k) has.departs
      (elim (suffice.enough has.journey arrive has.leads) [
        | inl f ↦ inl f
        | inr h ↦ inr (record { rides = h.rides; arrives = h.arrives; listed = h.listed; no_later = h.no_later; no_more = omega (arith, h.no_more, has.few) })
      ])

  pub earliest : (foot best : Option ℕ) → HasDistance (streets n) s t foot → HasBest n first last list d k best
      → HasEarliest n s d t k (earlier d foot best)
  earliest None None has_foot has_best =
      λ arrive has. elim (by_either arrive has) [
        | inl f ↦ has_foot f.foot.attained.0 f.seconds f.foot.attained.1
        | inr h ↦ has_best h.rides h.arrives h.no_more h.listed
      ]
  earliest None (Some best) has_foot has_best =
      record {
        attained = listed_arrival best has_best.0;
        least = λ other has. elim (by_either other has) [
          | inl f ↦ absurd (has_foot f.foot.attained.0 f.seconds f.foot.attained.1)
          | inr h ↦ omega (arith, h.no_later, has_best.1 h.rides h.arrives h.no_more h.listed)
        ];
      }
  earliest (Some foot) None has_foot has_best =
      record {
        attained = foot_arrival foot has_foot;
        least = λ other has. elim (by_either other has) [
          | inl f ↦ omega (arith, f.no_later, distance_same has_foot f.foot)
          | inr h ↦ absurd (has_best h.rides h.arrives h.no_more h.listed)
        ];
      }
  earliest (Some foot) (Some best) has_foot has_best =
      record {
        attained = elim (cases_lt (d + foot) best) [
          | inl h ↦ subst (λ a. HasArrival n s d t k a) (omega arith) (foot_arrival foot has_foot)
          | inr h ↦ subst (λ a. HasArrival n s d t k a) (omega arith) (listed_arrival best has_best.0)
        ];
        least = λ other has. elim (by_either other has) [
          | inl f ↦ omega (arith, f.no_later, distance_same has_foot f.foot)
          | inr h ↦ omega (arith, h.no_later, has_best.1 h.rides h.arrives h.no_more h.listed)
        ];
      }
