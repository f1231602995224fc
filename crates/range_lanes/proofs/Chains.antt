-- The rides behind a label are a listed journey.
use Rattle.std.proofs.Common.{◌≡◌, ℕ, zero, suc, ◌+◌, ◌-◌, ◌^◌, ◌<◌, ◌≤◌, List, [], ◌∷◌, length, refl, sym, ap, ◌∙◌, subst, arith, Some}
use Rattle.std.specs.Prelude.{slice_get, slice_index}
use Rattle.std.proofs.lemmas.Option.{same_Some}
use Rattle.move_model.specs.declared.network.StopNo.{StopNo}
use Rattle.move_model.specs.declared.journey.Ride.{Ride}
use Rattle.move_model.specs.Listed.{HasTransfer, IsListed}
use Rattle.raptor_rounds.specs.Answers.{turned_onto}
use Rattle.raptor_rounds.specs.Ways.{Query, IsReady, Leaves}
use Rattle.raptor_rounds.specs.Ways.IsReady.{at_first, goes_on}
use Rattle.raptor_rounds.proofs.LawLemmas.{listed_of, length-turned}
use Rattle.range_lanes.specs.declared.level.Level.{Level}
use Rattle.range_lanes.specs.Levels.{CatchesFrom, EndsBy}
use Rattle.range_lanes.specs.State.{AreSound, IsChain}
use Rattle.range_lanes.specs.State.IsChain.{first, next}
use Rattle.range_lanes.proofs.Complete.{level_before}

chain_level : (levels : List Level) (k : ℕ) (y : StopNo) (rides : List Ride) → IsChain levels k y rides → (l : Level) × (slice_get levels k ≡ Some l)
chain_level levels zero y rides (first {level = l} is_l is_step) = (l, is_l)
chain_level levels (suc k) y rides (next {level = l} is_l is_step chain) = (l, is_l)

module _ (q : Query) (levels : List Level) (sound : AreSound q levels) where
  pub record Behind (k : ℕ) (level : Level) (y : StopNo) (rides : List Ride) : Type 0 where
    pub ride : Ride
    pub before : List Ride
    pub second : ℕ
    pub rides_are : rides ≡ ride ∷ before
    pub leaves : Leaves q before ride y second
    pub by_second : second ≤ slice_index level.left.items y.0
    pub count : length before ≡ k

  pub behind : (k : ℕ) (y : StopNo) (rides : List Ride) → IsChain levels k y rides → (level : Level) → slice_get levels k ≡ Some level
      → slice_index level.left.items y.0 < 2 ^ 32 - 1 → Behind k level y rides
  behind zero y rides (first {level = l} {step = step} is_l is_step) level is sure =
      let same : l ≡ level = same_Some l level (sym is_l ∙ is) in
      let stands = (sound.each 0 level is).left y step (subst (λ (v : Level). slice_get v.steps.items y.0 ≡ Some step) same is_step) sure in
      record {
        ride = step.ride;
        before = [];
        second = stands.off.arr;
        rides_are = refl;
        leaves = record {
          on = stands.on;
          off = stands.off;
          ready = q.depart + stands.catches.0;
          is_ready = at_first stands.catches.1 refl;
          is_ride = stands.is_ride;
          in_time = stands.catches.2;
          stop_is = stands.stop_is;
          second_is = refl;
        };
        by_second = stands.by_second;
        count = refl;
      }
  behind (suc k) y rides (next {level = l} {step = step} {rides = rest} is_l is_step chain) level is sure =
      let same : l ≡ level = same_Some l level (sym is_l ∙ is) in
      let stands = (sound.each (suc k) level is).left y step (subst (λ (v : Level). slice_get v.steps.items y.0 ≡ Some step) same is_step) sure in
      let prev : (l : Level) × (slice_get levels k ≡ Some l) = chain_level levels k step.from rest chain in
      let caught : CatchesFrom q (Some prev.0) step stands.on =
      subst (λ o. CatchesFrom q o step stands.on) (level_before levels k prev.0 prev.1) stands.catches in
      let b : Behind k prev.0 step.from rest = behind k step.from rest chain prev.0 prev.1 caught.2 in
      record {
        ride = step.ride;
        before = rest;
        second = stands.off.arr;
        rides_are = refl;
        leaves = record {
          on = stands.on;
          off = stands.off;
          ready = b.second + caught.0;
          is_ready = subst (λ (v : List Ride). IsReady q v stands.on.stop (b.second + caught.0)) (sym b.rides_are)
              (goes_on b.leaves.is_ready b.leaves.is_ride b.leaves.in_time
              (subst (λ v. HasTransfer q.list v stands.on.stop caught.0) (sym b.leaves.stop_is) caught.1) (omega (arith, b.leaves.second_is)));
          is_ride = stands.is_ride;
          in_time = omega (arith, caught.3, b.by_second);
          stop_is = stands.stop_is;
          second_is = refl;
        };
        by_second = stands.by_second;
        count = omega (arith, ap length b.rides_are, b.count);
      }

  -- with the last row's walk they arrive no later than the walk says
  pub record Listed (k a : ℕ) (rides : List Ride) : Type 0 where
    pub arrive : ℕ
    pub listed : IsListed q.network q.first q.last q.list q.depart (turned_onto rides []) arrive
    pub no_later : arrive ≤ a
    pub many : length (turned_onto rides []) ≡ suc k

  pub chain_listed : (k : ℕ) (level : Level) → slice_get levels k ≡ Some level → (y : StopNo) (a : ℕ) → EndsBy q level y a
      → (rides : List Ride) → IsChain levels k y rides → Listed k a rides
  chain_listed k level is y a ends rides chain =
      let b : Behind k level y rides = behind k y rides chain level is ends.left in
      record {
        arrive = b.second + ends.seconds;
        listed = subst (λ (v : List Ride). IsListed q.network q.first q.last q.list q.depart (turned_onto v []) (b.second + ends.seconds)) (sym b.rides_are)
            (listed_of q b.before b.ride y b.second ends.seconds b.leaves ends.walk);
        no_later = omega (arith, b.by_second, ends.by_second);
        many = omega (arith, length-turned rides [], ap length b.rides_are, b.count);
      }
