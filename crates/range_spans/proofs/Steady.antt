-- A pair that is best at two seconds is best at each between them.
use Rattle.std.proofs.Common.{◌≡◌, ℕ, ◌+◌, ◌<◌, ◌≤◌, inl, inr, List, [], ◌∷◌, length, refl, sym, ap, subst, arith, Option, Some}
use Rattle.move_model.specs.declared.network.Network.{Network}
use Rattle.move_model.specs.declared.journey.Pair.{Pair}
use Rattle.move_model.specs.declared.journey.Ride.{Ride}
use Rattle.move_model.specs.declared.journey.Shortcut.{Shortcut}
use Rattle.move_model.specs.Listed.{IsListed}
use Rattle.move_model.specs.Listed.IsListed.{begins}
use Rattle.move_model.specs.Journey.{IsNoWorse}
use Rattle.move_model.specs.Range.{HasFootPair, HasRidesPair, HasListedPair, IsListedBest}
use Rattle.range_spans.specs.Open.{RangeQuery, IsBestRide}

pub listed_earlier : (n : Network) (first last : List (Option ℕ)) (list : List Shortcut) (d e : ℕ) (rides : List Ride) (arrive : ℕ)
    → e ≤ d → IsListed n first last list d rides arrive → IsListed n first last list e rides arrive
listed_earlier n first last list d e rides arrive earlier (begins {m = m} entry is_ride in_time goes) =
    begins entry is_ride (omega (arith, earlier, in_time)) goes

module _ (q : RangeQuery) where
  abbrev HasPair : ℕ → Pair → Type 0
  HasPair d pair = HasListedPair q.network q.first_row q.last_row q.list q.foot d pair

  rides_earlier : (d e : ℕ) (pair : Pair) → e ≤ d → HasRidesPair q.network q.first_row q.last_row q.list d pair
      → HasRidesPair q.network q.first_row q.last_row q.list e pair
  rides_earlier d e pair earlier h = record {
    rides = h.rides;
    listed = listed_earlier q.network q.first_row q.last_row q.list d e h.rides pair.arrive earlier h.listed;
    many = h.many;
  }

  pub steady : (c d e : ℕ) (pair : Pair) → c ≤ d → d ≤ e → IsBestRide q c pair → IsBestRide q e pair → IsBestRide q d pair
  steady c d e pair after before early late = record {
    best = record {
      within = early.best.within;
      attained = elim late.best.attained [
        | inl walk ↦ absurd (omega (arith, walk.no_trip, late.rides))
        | inr ridden ↦ inr (rides_earlier e d pair before ridden)
      ];
      best = λ other within has no_worse. elim has [
        | inl walk ↦
            let there : HasFootPair q.foot c (record { arrive = c + walk.seconds; trips = 0 }) = record { seconds = walk.seconds; foot_is = walk.foot_is; arrive_is = refl; no_trip = refl } in
            let same : record { arrive = c + walk.seconds; trips = 0 } ≡ pair =
            early.best.best (record { arrive = c + walk.seconds; trips = 0 }) (omega arith) (inl there)
            (omega (arith, after, walk.arrive_is, no_worse.0), omega arith) in
            absurd (omega (arith, early.rides, ap (λ (p : Pair). p.trips) same))
        | inr ridden ↦ early.best.best other within (inr (rides_earlier d c other after ridden)) no_worse
      ];
    };
    rides = early.rides;
  }

  -- who walks is best, where no ride is needed
  pub foot_best : (d : ℕ) (pair : Pair) → HasFootPair q.foot d pair → IsListedBest q.network q.first_row q.last_row q.list q.foot d q.limit pair
  foot_best d pair walk = record {
    within = omega (arith, walk.no_trip);
    attained = inl walk;
    best = λ other within has no_worse. elim has [
      | inl other_walk ↦ pair_same other.arrive other.trips pair.arrive pair.trips
          (omega (arith, walk.arrive_is, other_walk.arrive_is, same_some other_walk.seconds walk.seconds (sym_foot other_walk walk)))
          (omega (arith, walk.no_trip, other_walk.no_trip))
      | inr ridden ↦ absurd (rode ridden.rides other.arrive ridden.listed (omega (arith, ridden.many, no_worse.1, walk.no_trip)))
    ];
  }
    where
      sym_foot : {a b : Pair} → (x : HasFootPair q.foot d a) (y : HasFootPair q.foot d b) → Some x.seconds ≡ Some y.seconds
      sym_foot x y = cc (x.foot_is, y.foot_is)

      same_some : (a b : ℕ) → Some a ≡ Some b → a ≡ b
      same_some a b e = cc

      pair_same : (a t b u : ℕ) → a ≡ b → t ≡ u → record { arrive = a; trips = t } ≡ (let v : Pair = record { arrive = b; trips = u } in v)
      pair_same a t b u e f = cc

      rode : (rides : List Ride) (arrive : ℕ) → IsListed q.network q.first_row q.last_row q.list d rides arrive → length rides ≤ 0 → ⊥
      rode rides arrive (begins entry is_ride in_time goes) none = omega (arith, none)

  -- a best pair with no ride is on foot
  pub best_walks : (d : ℕ) (pair : Pair) → IsListedBest q.network q.first_row q.last_row q.list q.foot d q.limit pair → pair.trips ≡ 0 → HasFootPair q.foot d pair
  best_walks d pair best none = elim best.attained [
    | inl walk ↦ walk
    | inr ridden ↦ absurd (rode ridden.rides pair.arrive ridden.listed (omega (arith, ridden.many, none)))
  ]
    where
      rode : (rides : List Ride) (arrive : ℕ) → IsListed q.network q.first_row q.last_row q.list d rides arrive → length rides ≤ 0 → ⊥
      rode rides arrive (begins entry is_ride in_time goes) none = omega (arith, none)
