-- The routes of the trips so far, with one trip more.
use Rattle.std.proofs.Common.{◌≡◌, ℕ, ◌+◌, ◌<◌, List, [], ◌∷◌, ◌++◌, length, set, subst, sym, refl, arith, length-append}
use Rattle.std.specs.Prelude.{slice_index}
use Rattle.std.proofs.lemmas.List.{length-set}
use Rattle.move_model.specs.declared.network.Trip.{Trip}
use Rattle.route_split.specs.Split.{CanStand, CannotStand}
use Rattle.route_split.specs.Chains.{bucket_of, AreChains, IsSoFar}
use Rattle.route_split.proofs.SplitLemmas.{split_joins, lasts_join, split_opens, lasts_open}
use Rattle.route_split.proofs.ChainLemmas.{chains_join, chains_open}

pub so_far_none : (trips : List Trip) (routes lasts tops nexts : List ℕ) → routes ≡ [] → lasts ≡ [] → 0 < length tops
    → ((key : ℕ → ℕ) → AreChains key 0 tops nexts) → IsSoFar trips routes lasts tops nexts 0
so_far_none trips routes lasts tops nexts er el some chained =
    subst (λ l. IsSoFar trips l lasts tops nexts 0) (sym er)
    (subst (λ l. IsSoFar trips [] l tops nexts 0) (sym el) (record {
      split = record {
        one_each = refl;
        below = λ t low. absurd (omega (arith, low));
        alike = λ t u before low. absurd (omega (arith, low));
        apart = λ g h before low. absurd (omega (arith, low));
      };
      ends = record {
        within = λ g low. absurd (omega (arith, low));
        in_route = λ g low. absurd (omega (arith, low));
        latest = λ t low. absurd (omega (arith, low));
      };
      few = omega arith;
      some = some;
      chained = chained (λ g. bucket_of trips (length tops) (slice_index [] g));
    }))

pub so_far_moved : (trips : List Trip) (routes lasts tops nexts routes' lasts' tops' nexts' : List ℕ) (u : ℕ) → routes' ≡ routes → lasts' ≡ lasts → tops' ≡ tops
    → nexts' ≡ nexts → IsSoFar trips routes lasts tops nexts u → IsSoFar trips routes' lasts' tops' nexts' u
so_far_moved trips routes lasts tops nexts routes' lasts' tops' nexts' u er el et en is =
    subst (λ l. IsSoFar trips l lasts' tops' nexts' u) (sym er)
    (subst (λ l. IsSoFar trips routes l tops' nexts' u) (sym el)
    (subst (λ l. IsSoFar trips routes lasts l nexts' u) (sym et)
    (subst (λ l. IsSoFar trips routes lasts tops l u) (sym en) is)))

module _ (trips : List Trip) (routes lasts tops nexts : List ℕ) (u : ℕ) (low : u < length trips) (was : IsSoFar trips routes lasts tops nexts u) where
  pub lasts_low : (g : ℕ) → g < length lasts → slice_index lasts g < length trips
  lasts_low g within = omega (arith, was.ends.within g within, low)

  pub so_far_join : (g : ℕ) → g < length lasts → CanStand trips (slice_index lasts g) u → IsSoFar trips (routes ++ g ∷ []) (set lasts g u) tops nexts (u + 1)
  so_far_join g within can = record {
    split = split_joins trips routes lasts u low was.split was.ends g within can;
    ends = lasts_join trips routes lasts u low was.split was.ends g within can;
    few = omega (arith, was.few, length-set lasts g u);
    some = was.some;
    chained = chains_join trips lasts tops nexts g u was.chained within low (lasts_low g within) can;
  }

  pub so_far_open : (chain : ℕ) → chain < length tops → chain ≡ bucket_of trips (length tops) u
      → ((g : ℕ) → g < length lasts → CannotStand trips (slice_index lasts g) u)
      → IsSoFar trips (routes ++ length lasts ∷ []) (lasts ++ u ∷ []) (set tops chain (length lasts + 1)) (nexts ++ slice_index tops chain ∷ []) (u + 1)
  so_far_open chain within is none = record {
    split = split_opens trips routes lasts u low was.split was.ends none;
    ends = lasts_open trips routes lasts u low was.split was.ends none;
    few = omega (arith, was.few, length-append lasts (u ∷ []));
    some = omega (arith, was.some, length-set tops chain (length lasts + 1));
    chained = chains_open trips lasts tops nexts u chain was.chained within is;
  }
