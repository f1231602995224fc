-- The Pareto set by the levels of a table.
use Rattle.std.proofs.Common.{◌≡◌, ℕ, zero, suc, ◌+◌, ◌-◌, ◌<◌, ◌≤◌, List, [], length, get_or, Bool, true, false, refl, sym, ◌∙◌, ap, subst, inl, inr, arith, Some, None}
use Rattle.std.specs.Bool.{MatchBool, OnTrue, OnFalse}
use Rattle.std.proofs.lemmas.Bool.{cases_lt}
use Rattle.move_model.specs.declared.network.Network.{Network}
use Rattle.move_model.specs.declared.network.NodeNo.{NodeNo}
use Rattle.move_model.specs.declared.journey.Pair.{Pair}
use Rattle.move_model.specs.Network.{IsNetwork}
use Rattle.move_model.specs.Journey.{HasPair, IsNoWorse, IsBest, HasArrival}
use Rattle.plain_search.specs.declared.way.Way.{Way}
use Rattle.plain_search.specs.Row.{Ways, IsWayTo, HasWayBy}
use Rattle.plain_search.specs.Levels.{before_of, IsTable}
use Rattle.plain_search.proofs.Rows.{same_default, by_later}
use Rattle.plain_search.proofs.JourneyLaws.{way_by, later_level, arrival_by, arrival_of}

pub pair_eq : (p q : Pair) → p.arrive ≡ q.arrive → p.trips ≡ q.trips → p ≡ q
pair_eq p q e f = λ i. record { arrive = e i; trips = f i }

-- the row for the pair's rides has a way that arrives at the pair's second, and no row before it has one by then
pub record IsGain (rows : List Ways) (t : NodeNo) (pair : Pair) : Type 0 where
  pub within : pair.trips < length rows
  pub way : Way
  pub at : IsWayTo (get_or rows pair.trips []) t way
  pub arrives : way.second ≡ pair.arrive
  pub none_before : HasWayBy (before_of rows pair.trips) t pair.arrive → ⊥

module _ (n : Network) (ok : IsNetwork n) (s : NodeNo) (d : ℕ) (rows : List Ways) (table : IsTable n s d rows) (t : NodeNo) where
  -- a way with fewer rides stands in the row before
  before_has : (j k m : ℕ) → j < k → k < length rows → HasWayBy (get_or rows j []) t m → HasWayBy (before_of rows k) t m
  before_has j zero m fewer within has = absurd (omega arith)
  before_has j (suc k) m fewer within has =
      let e : j + (k - j) ≡ k = omega arith in
      subst (λ i. HasWayBy (get_or rows i []) t m) e (later_level n ok s d rows table j (k - j) t m (omega arith) has)

  arrival_within : (pair : Pair) (k : ℕ) → pair.trips ≤ k → HasPair n s d t pair → HasArrival n s d t k pair.arrive
  arrival_within pair k few has = record { journey = has.journey; departs = has.departs; leads = has.arrives; few = omega (arith, has.rides, few) }

  pair_within : (pair : Pair) → pair.trips < length rows → HasPair n s d t pair → HasWayBy (get_or rows pair.trips []) t pair.arrive
  pair_within pair within has = arrival_by n ok s d rows table t pair.trips pair.arrive within (arrival_within pair pair.trips (omega arith) has)

  -- no journey with fewer rides is as early as a gain
  pub trips_exact : (pair : Pair) → IsGain rows t pair → (other : Pair) → HasPair n s d t other → IsNoWorse other pair → other.trips ≡ pair.trips
  trips_exact pair gain other has no_worse = elim (cases_lt other.trips pair.trips) [
    | inl fewer ↦
        absurd (gain.none_before (before_has other.trips pair.trips pair.arrive fewer gain.within
        (by_later (pair_within other (omega (arith, gain.within, fewer)) has) no_worse.0)))
    | inr h ↦ omega (arith, no_worse.1)
  ]

  module _ (limit : ℕ) (many : length rows ≡ limit + 1) where
    -- a pair that no other is as good as is a gain
    pub gain_from_best : (pair : Pair) → IsBest n s d t limit pair → IsGain rows t pair
    gain_from_best pair best =
        let inside : pair.trips < length rows = omega (arith, best.within, many) in
        let has = pair_within pair inside best.attained in
        let here = arrival_of n ok s d rows table pair.trips inside t has.way has.stands in
        record {
          within = inside;
          way = has.way;
          at = has.stands;
          arrives = ap (λ (p : Pair). p.arrive) (same has.way.second pair.trips (omega arith) here has.no_later);
          none_before = λ before. absurd (fewer pair.trips inside refl before);
        }
      where
        -- a journey that is as good has the pair
        same : (arrive k : ℕ) → k ≤ pair.trips → (has : HasArrival n s d t k arrive) → arrive ≤ pair.arrive
            → record { arrive = arrive; trips = length has.journey.rides } ≡ pair
        same arrive k few has early =
            best.best (record { arrive = arrive; trips = length has.journey.rides }) (omega (arith, has.few, few, best.within))
            (record { journey = has.journey; departs = has.departs; arrives = has.leads; rides = refl }) (early, omega (arith, has.few, few))

        fewer : (k : ℕ) → k < length rows → k ≡ pair.trips → HasWayBy (before_of rows k) t pair.arrive → ⊥
        fewer zero inside is before = no_way before.way before.stands
          where
            no_way : (way : Way) → None ≡ Some (Some way) → ⊥
            no_way way e = cc
        fewer (suc k) inside is before =
            let has = arrival_of n ok s d rows table k (omega arith) t before.way before.stands in
            let e = same before.way.second k (omega (arith, is)) has before.no_later in
            absurd (omega (arith, has.few, is, ap (λ (p : Pair). p.trips) e))

    pub best_from_gain : (pair : Pair) → IsGain rows t pair → IsBest n s d t limit pair
    best_from_gain pair gain =
        record {
          within = omega (arith, gain.within, many);
          attained = attained;
          best = best;
        }
      where
        attained : HasPair n s d t pair
        attained =
            let has = arrival_of n ok s d rows table pair.trips gain.within t gain.way gain.at in
            let other : Pair = record { arrive = gain.way.second; trips = length has.journey.rides } in
            let trips_are : length has.journey.rides ≡ pair.trips =
            trips_exact pair gain other (record { journey = has.journey; departs = has.departs; arrives = has.leads; rides = refl }) (omega (arith, gain.arrives), has.few) in
            subst (λ (p : Pair). HasPair n s d t p) (pair_eq other pair gain.arrives trips_are)
            (record { journey = has.journey; departs = has.departs; arrives = has.leads; rides = refl })

        best : (other : Pair) → other.trips ≤ limit → HasPair n s d t other → IsNoWorse other pair → other ≡ pair
        best other few has no_worse =
            let trips_are = trips_exact pair gain other has no_worse in
            let there : HasWayBy (get_or rows pair.trips []) t other.arrive =
            subst (λ k. HasWayBy (get_or rows k []) t other.arrive) trips_are (pair_within other (omega (arith, few, many)) has) in
            pair_eq other pair (omega (arith, no_worse.0, gain.arrives, way_by (get_or rows pair.trips []) t gain.way other.arrive gain.at there)) trips_are

-- whether a way would be the best of the row before, asked of that row as it was lent
pub gain_asked : (rows : List Ways) (k : ℕ) (t : NodeNo) (second asked : ℕ) (row lent : Ways) (better : Bool) → 0 < k → k ≤ length rows
    → row ≡ get_or rows (k - 1) row → lent ≡ row → asked ≡ second
    → OnTrue better ((t.0 < length lent) × (HasWayBy lent t asked → ⊥)) → OnFalse better (t.0 < length lent → HasWayBy lent t asked)
    → MatchBool better (HasWayBy (before_of rows k) t second → ⊥) ((0 < k) × (t.0 < length (before_of rows k) → HasWayBy (before_of rows k) t second))
gain_asked rows zero t second asked row lent better some within row_is lent_is asked_is won lost = absurd (omega (arith, some))
gain_asked rows (suc j) t second asked row lent better some within row_is lent_is asked_is won lost = go better won lost
  where
    e : suc j - 1 ≡ j
    e = omega arith

    same : lent ≡ get_or rows j []
    same = lent_is ∙ subst (λ i. row ≡ get_or rows i row) e row_is ∙ same_default rows j row [] (omega (arith, within))

    here : HasWayBy lent t asked → HasWayBy (get_or rows j []) t second
    here has = subst (λ r. HasWayBy r t second) same (subst (λ m. HasWayBy lent t m) asked_is has)

    there : HasWayBy (get_or rows j []) t second → HasWayBy lent t asked
    there has = subst (λ m. HasWayBy lent t m) (sym asked_is) (subst (λ r. HasWayBy r t second) (sym same) has)

    go : (better : Bool) → OnTrue better ((t.0 < length lent) × (HasWayBy lent t asked → ⊥)) → OnFalse better (t.0 < length lent → HasWayBy lent t asked)
        → MatchBool better (HasWayBy (get_or rows j []) t second → ⊥)
        ((0 < suc j) × (t.0 < length (get_or rows j []) → HasWayBy (get_or rows j []) t second))
    go true won lost = λ has. won.1 (there has)
    go false won lost = (omega arith, λ inside. here (lost (omega (arith, inside, ap (λ (r : Ways). length r) same))))
