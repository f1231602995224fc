-- A pair of the Pareto set is the least arrival with its number of rides, and no fewer rides give it.
use Rattle.std.proofs.Common.{◌≡◌, ℕ, ◌<◌, ◌≤◌, ◌↔◌, length, refl, ap, inl, inr, arith}
use Rattle.std.proofs.lemmas.Bool.{cases_lt}
use Rattle.move_model.specs.declared.network.Network.{Network}
use Rattle.move_model.specs.declared.network.NodeNo.{NodeNo}
use Rattle.move_model.specs.declared.journey.Pair.{Pair}
use Rattle.move_model.specs.Journey.{HasPair, IsNoWorse, IsBest, HasArrival, IsStep}

pub pair_eq : (p q : Pair) → p.arrive ≡ q.arrive → p.trips ≡ q.trips → p ≡ q
pair_eq p q e f = λ i. record { arrive = e i; trips = f i }

module _ (n : Network) (s : NodeNo) (d : ℕ) (t : NodeNo) where
  -- a journey's pair, with its exact number of rides
  pair_of : (k arrive : ℕ) → (has : HasArrival n s d t k arrive)
      → HasPair n s d t (record { arrive = arrive; trips = length has.journey.rides })
  pair_of k arrive has = record { journey = has.journey; departs = has.departs; arrives = has.leads; rides = refl }

  arrival_of : (pair : Pair) (k : ℕ) → pair.trips ≤ k → HasPair n s d t pair → HasArrival n s d t k pair.arrive
  arrival_of pair k few has = record { journey = has.journey; departs = has.departs; leads = has.arrives; few = omega (arith, has.rides) }

  step_from_best : (limit : ℕ) (pair : Pair) → IsBest n s d t limit pair → IsStep n s d t limit pair
  step_from_best limit pair best =
      record {
        within = best.within;
        earliest = record { attained = arrival_of pair pair.trips (omega arith) best.attained; least = least };
        none_fewer = none_fewer;
      }
    where
      same : (k arrive : ℕ) → k ≤ pair.trips → (has : HasArrival n s d t k arrive) → arrive ≤ pair.arrive
          → record { arrive = arrive; trips = length has.journey.rides } ≡ pair
      same k arrive few has early =
          best.best (record { arrive = arrive; trips = length has.journey.rides }) (omega (arith, has.few, best.within)) (pair_of k arrive has)
          (early, omega (arith, has.few))

      least : (other : ℕ) → HasArrival n s d t pair.trips other → pair.arrive ≤ other
      least other has = elim (cases_lt other pair.arrive) [
        | inl early ↦ omega (arith, ap (λ (p : Pair). p.arrive) (same pair.trips other (omega arith) has (omega arith)))
        | inr late ↦ late
      ]

      none_fewer : (k arrive : ℕ) → k < pair.trips → HasArrival n s d t k arrive → pair.arrive < arrive
      none_fewer k arrive fewer has = elim (cases_lt pair.arrive arrive) [
        | inl late ↦ late
        | inr early ↦ absurd (omega (arith, has.few, ap (λ (p : Pair). p.trips) (same k arrive (omega arith) has early)))
      ]

  best_from_step : (limit : ℕ) (pair : Pair) → IsStep n s d t limit pair → IsBest n s d t limit pair
  best_from_step limit pair step =
      record { within = step.within; attained = attained; best = best }
    where
      exact : (other : Pair) → HasPair n s d t other → IsNoWorse other pair → other.trips ≡ pair.trips
      exact other has no_worse = elim (cases_lt other.trips pair.trips) [
        | inl fewer ↦ absurd (omega (arith, no_worse.0, step.none_fewer other.trips other.arrive fewer (arrival_of other other.trips (omega arith) has)))
        | inr h ↦ omega (arith, no_worse.1)
      ]

      attained : HasPair n s d t pair
      attained =
          let has = step.earliest.attained in
          let e = exact (record { arrive = pair.arrive; trips = length has.journey.rides }) (pair_of pair.trips pair.arrive has) (omega arith, has.few) in
          record { journey = has.journey; departs = has.departs; arrives = has.leads; rides = e }

      best : (other : Pair) → other.trips ≤ limit → HasPair n s d t other → IsNoWorse other pair → other ≡ pair
      best other within has no_worse =
          pair_eq other pair
          (omega (arith, no_worse.0, step.earliest.least other.arrive (arrival_of other pair.trips no_worse.1 has)))
          (exact other has no_worse)

pub pareto_by_rides_lem : (n : Network) (s : NodeNo) (d : ℕ) (t : NodeNo) (limit : ℕ) (pair : Pair)
    → IsBest n s d t limit pair ↔ IsStep n s d t limit pair
pareto_by_rides_lem n s d t limit pair = (step_from_best n s d t limit pair, best_from_step n s d t limit pair)
