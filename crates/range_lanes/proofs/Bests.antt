-- Which best arrivals are best pairs.
use Rattle.std.proofs.Common.{◌≡◌, ℕ, zero, suc, ◌+◌, ◌-◌, ◌^◌, ◌<◌, ◌≤◌, inl, inr, List, [], ◌∷◌, length, refl, sym, ap, ◌∙◌, subst, arith, Option, Some}
use Rattle.std.specs.Prelude.{slice_get, slice_index, All}
use Rattle.std.proofs.lemmas.Bool.{cases_lt}
use Rattle.std.proofs.lemmas.Option.{slice_get-get_or, slice_get_within, get_or_from_slice_get, same_Some}
use Rattle.std.proofs.lemmas.List.Elements.{All-get_or}
use Rattle.move_model.specs.declared.network.StopNo.{StopNo}
use Rattle.move_model.specs.declared.journey.Ride.{Ride}
use Rattle.move_model.specs.declared.journey.Pair.{Pair}
use Rattle.move_model.specs.Listed.{IsListed}
use Rattle.move_model.specs.Journey.{IsNoWorse}
use Rattle.move_model.specs.Range.{HasFootPair, HasListedPair, HasRidesPair, IsListedBest}
use Rattle.route_split.specs.Route.{IsRoute}
use Rattle.route_split.specs.Table.{Table}
use Rattle.route_split.specs.Calls.{IsTableOf}
use Rattle.raptor_rounds.specs.Answers.{turned_onto}
use Rattle.raptor_rounds.specs.Ways.{Query}
use Rattle.range_lanes.specs.declared.level.Step.{Step}
use Rattle.range_lanes.specs.declared.level.Level.{Level}
use Rattle.range_lanes.specs.Levels.{CatchesFrom, Fits}
use Rattle.range_lanes.specs.State.{IsClosed, AreSound, IsChain}
use Rattle.range_lanes.proofs.RoundLaw.{item_at}
use Rattle.range_lanes.proofs.Complete.{level_before, BestBy, best_by}
use Rattle.range_lanes.proofs.Chains.{Listed, chain_listed}

-- the best arrival of the k-th level is less than those of the levels below it, and than who walks
pub record Leads (foot : Option ℕ) (d : ℕ) (levels : List Level) (k : ℕ) (level : Level) : Type 0 where
  pub some : level.best < 2 ^ 64 - 1
  pub lower : (j : ℕ) (l : Level) → j < k → slice_get levels j ≡ Some l → level.best < l.best
  pub walks : (seconds : ℕ) → foot ≡ Some seconds → level.best < d + seconds

module _ (q : Query) (table : Table) (levels : List Level) (stops : ℕ) (is : IsTableOf q.network table) (whole : All (IsRoute table.stops) table.routes)
    (closed : IsClosed table q.first q.last q.list q.depart levels) (sound : AreSound q levels) (fits : All (Fits stops) levels) where
  step_at : (k : ℕ) (level : Level) → slice_get levels k ≡ Some level → (y : ℕ) → slice_index level.left.items y < 2 ^ 32 - 1 → y < stops
      → (step : Step) × (slice_get level.steps.items y ≡ Some step)
  step_at k level is_level y sure within =
      let fit : Fits stops level = subst (Fits stops) (get_or_from_slice_get levels k level level is_level) (All-get_or (Fits stops) levels k level (slice_get_within levels k level is_level) fits) in
      go level.steps.items y (omega (arith, within, fit.steps))
    where
      go : (steps : List Step) (y : ℕ) → y < length steps → (step : Step) × (slice_get steps y ≡ Some step)
      go [] y lt = absurd (omega (arith, lt))
      go (x ∷ steps) zero lt = (x, refl)
      go (x ∷ steps) (suc y) lt = go steps y (omega (arith, lt))

  -- a pair that leads is best
  module _ (foot : Option ℕ) (k : ℕ) (level : Level) (is_level : slice_get levels k ≡ Some level) (leads : Leads foot q.depart levels k level) where
    here : (place : ℕ) (l : Level) → slice_get levels place ≡ Some l → place < suc k → l.best ≤ level.best → k ≡ place
    here place l is_l within le = elim (cases_lt place k) [
      | inl below ↦ absurd (omega (arith, leads.lower place l below is_l, le))
      | inr from ↦ omega (arith, from, within)
    ]

    best_here : (place : ℕ) (l : Level) → slice_get levels place ≡ Some l → k ≡ place → l.best ≡ level.best
    best_here place l is_l e = ap (λ (v : Level). v.best) (same_Some l level (sym is_l ∙ ap (λ i. slice_get levels i) (sym e) ∙ is_level))

    pub lead_attained : (rides : List Ride) → IsChain levels k level.best_stop rides → HasRidesPair q.network q.first q.last q.list q.depart (record { arrive = level.best; trips = suc k })
    lead_attained rides chain =
        let listed : Listed q levels sound k level.best rides = chain_listed q levels sound k level is_level level.best_stop level.best ((sound.each k level is_level).best leads.some) rides chain in
        let few : length (turned_onto rides []) ≤ length levels = omega (arith, listed.many, slice_get_within levels k level is_level) in
        let b : BestBy q table levels is whole closed (length (turned_onto rides [])) listed.arrive = best_by q table levels is whole closed (turned_onto rides []) listed.arrive few listed.listed in
        let e : k ≡ b.place = here b.place b.level b.is_level (omega (arith, b.within, listed.many)) (omega (arith, b.no_later, listed.no_later)) in
        let arrive_is : listed.arrive ≡ level.best = omega (arith, listed.no_later, b.no_later, best_here b.place b.level b.is_level e) in
        record {
          rides = turned_onto rides [];
          listed = subst (λ a. IsListed q.network q.first q.last q.list q.depart (turned_onto rides []) a) arrive_is listed.listed;
          many = listed.many;
        }

    pub lead_best : (limit : ℕ) → limit ≤ length levels → suc k ≤ limit → (rides : List Ride) → IsChain levels k level.best_stop rides
        → IsListedBest q.network q.first q.last q.list foot q.depart limit (record { arrive = level.best; trips = suc k })
    lead_best limit few enough rides chain = record {
      within = enough;
      attained = inr (lead_attained rides chain);
      best = λ other other_within has no_worse. elim has [
        | inl walk ↦ absurd (omega (arith, leads.walks walk.seconds walk.foot_is, walk.arrive_is, no_worse.0, no_worse.1))
        | inr ridden ↦
            let b : BestBy q table levels is whole closed (length ridden.rides) other.arrive =
            best_by q table levels is whole closed ridden.rides other.arrive (omega (arith, ridden.many, other_within, few)) ridden.listed in
            let e : k ≡ b.place = here b.place b.level b.is_level (omega (arith, b.within, ridden.many, no_worse.0, no_worse.1)) (omega (arith, b.no_later, no_worse.0, no_worse.1)) in
            let trips_are : other.trips ≡ suc k = omega (arith, e, b.within, ridden.many, no_worse.0, no_worse.1) in
            let arrive_is : other.arrive ≡ level.best = omega (arith, b.no_later, best_here b.place b.level b.is_level e, no_worse.0, no_worse.1) in
            pair_same other.arrive other.trips level.best (suc k) arrive_is trips_are
      ];
    }
      where
        pair_same : (a t b u : ℕ) → a ≡ b → t ≡ u → record { arrive = a; trips = t } ≡ (let v : Pair = record { arrive = b; trips = u } in v)
        pair_same a t b u e f = cc
