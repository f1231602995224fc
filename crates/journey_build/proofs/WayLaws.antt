-- The way so far, one leg on and at its end.
use Rattle.std.proofs.Common.{◌≡◌, ◌∙◌, ◌+◌, ◌<◌, ◌≤◌, ℕ, List, [], ◌∷◌, ◌++◌, length, take, drop, get_or, refl, sym, ap, subst, append_assoc}
use Rattle.std.specs.Prelude.{All}
use Rattle.std.proofs.lemmas.List.{take_more, drop_more, drop_all, take_all, append-nil}
use Rattle.std.proofs.lemmas.List.Elements.{All-push, All-weaker, All-nil}
use Rattle.move_model.specs.declared.network.Network.{Network}
use Rattle.move_model.specs.declared.network.NodeNo.{NodeNo}
use Rattle.move_model.specs.declared.journey.Ride.{Ride}
use Rattle.move_model.specs.declared.journey.Journey.{Journey}
use Rattle.move_model.specs.Network.{IsNetwork, streets, node_of}
use Rattle.move_model.specs.Journey.{Travels}
use Rattle.move_model.specs.Found.{IsLeastWalk}
use Rattle.move_model.specs.Journey.Travels.{walks, rides}
use Rattle.walk_hierarchy.specs.Hierarchy.{Parts, IsNode, IsUpDownSum, IsWayOver, GivesDistances}
use Rattle.journey_build.specs.declared.leg.Leg.{Leg}
use Rattle.journey_build.specs.Built.{IsLeastWay, IsBuilt, IsMissed, IsBroken, HasRides}
use Rattle.journey_build.specs.Built.IsBroken.{at_end, here, later}
use Rattle.journey_build.specs.Leg.{IsLeg, IsOnWay}
use Rattle.journey_build.proofs.BrokenLaws.{unbroken, least_suits, distance_suits, least_walk, IsSuited}

pub starts : (n : Network) (h : Parts) (from : NodeNo) (depart : ℕ) (all : List Ride) (to : NodeNo) → IsNode h from → IsOnWay n h from depart all to 0 [] from depart
starts n h from depart all to is = record { exists = is; leads = λ ws rs t a travels. travels; broken = λ broken. broken; ways = All-nil (IsLeastWay (streets n) h) }

module _ (n : Network) (h : Parts) (from : NodeNo) (depart : ℕ) (all : List Ride) (to : NodeNo) (i : ℕ) (so_far : List (List NodeNo)) (p : NodeNo) (r : ℕ)
    (way : IsOnWay n h from depart all to i so_far p r) where
  pub goes_on : (ride : Ride) (leg : Leg) → i < length all → ride ≡ get_or all i ride → IsLeg n h p r ride leg
      → IsOnWay n h from depart all to (i + 1) (so_far ++ leg.walk ∷ []) leg.place leg.second
  goes_on ride leg lt is leg_is = record {
    exists = leg_is.exists;
    leads = λ ws rs t a travels.
        let there : Travels n (node_of n leg_is.off.stop) leg_is.off.arr ws rs t a =
        subst (λ (m : ℕ). Travels n (node_of n leg_is.off.stop) m ws rs t a) leg_is.second (subst (λ (v : NodeNo). Travels n v leg.second ws rs t a) leg_is.place travels) in
        let whole : Travels n from depart (so_far ++ leg.walk ∷ ws) (take i all ++ ride ∷ rs) t a =
        way.leads (leg.walk ∷ ws) (ride ∷ rs) t a (rides leg_is.walks leg_is.is_ride leg_is.in_time there) in
        let walked : (so_far ++ leg.walk ∷ []) ++ ws ≡ so_far ++ leg.walk ∷ ws = append_assoc so_far (leg.walk ∷ []) ws in
        let taken : take (i + 1) all ≡ take i all ++ ride ∷ [] = take_more all i ride lt ∙ ap (λ (x : Ride). take i all ++ x ∷ []) (sym is) in
        let ridden : take (i + 1) all ++ rs ≡ take i all ++ ride ∷ rs = ap (λ (xs : List Ride). xs ++ rs) taken ∙ append_assoc (take i all) (ride ∷ []) rs in
        subst (λ (xs : List (List NodeNo)). Travels n from depart xs (take (i + 1) all ++ rs) t a) (sym walked)
        (subst (λ (xs : List Ride). Travels n from depart (so_far ++ leg.walk ∷ ws) xs t a) (sym ridden) whole);
    broken = λ broken.
        let there : IsBroken n h (node_of n leg_is.off.stop) leg_is.off.arr (drop (i + 1) all) to =
        subst (λ (m : ℕ). IsBroken n h (node_of n leg_is.off.stop) m (drop (i + 1) all) to) leg_is.second
        (subst (λ (v : NodeNo). IsBroken n h v leg.second (drop (i + 1) all) to) leg_is.place broken) in
        way.broken (subst (λ (xs : List Ride). IsBroken n h p r xs to) (sym (left_over ride lt is)) (later leg_is.is_ride there));
    ways = All-push (IsLeastWay (streets n) h) so_far leg.walk way.ways leg_is.way;
  }
    where
      left_over : (ride : Ride) → i < length all → ride ≡ get_or all i ride → drop i all ≡ ride ∷ drop (i + 1) all
      left_over ride lt is = drop_more all i ride lt ∙ ap (λ (x : Ride). x ∷ drop (i + 1) all) (sym is)

  pub misses : (ride : Ride) → i < length all → ride ≡ get_or all i ride → IsMissed n h p r ride → IsBroken n h from depart all to
  misses ride lt is missed =
      let left : drop i all ≡ ride ∷ drop (i + 1) all = drop_more all i ride lt ∙ ap (λ (x : Ride). x ∷ drop (i + 1) all) (sym is) in
      way.broken (subst (λ (xs : List Ride). IsBroken n h p r xs to) (sym left) (here missed))

  pub ends_nowhere : length all ≤ i → ((m : ℕ) → IsUpDownSum h p to m → ⊥) → IsBroken n h from depart all to
  ends_nowhere le none = way.broken (subst (λ (xs : List Ride). IsBroken n h p r xs to) (sym (drop_all i all le)) (at_end none))

  pub ends : (walk : List NodeNo) → length all ≤ i → IsWayOver (streets n) h p to walk
      → IsBuilt n h from depart all to (record { depart = depart; walks = so_far ++ walk ∷ []; rides = all })
  ends walk le over = record {
    departs = refl;
    same_rides = refl;
    arrive = r + over.seconds;
    leads = subst (λ (xs : List Ride). Travels n from depart (so_far ++ walk ∷ []) xs to (r + over.seconds)) (append-nil (take i all) ∙ take_all i all le)
        (way.leads (walk ∷ []) [] to (r + over.seconds) (walks over.walks));
    ways = All-push (IsLeastWay (streets n) h) so_far walk way.ways (record { from = p; to = to; way = over });
  }

  -- the walks and the rides as they are put together
  pub ends_as : (walk : List NodeNo) (ws : List (List NodeNo)) (rs : List Ride) → length all ≤ i → IsWayOver (streets n) h p to walk → ws ≡ so_far ++ walk ∷ [] → rs ≡ all
      → IsBuilt n h from depart all to (record { depart = depart; walks = ws; rides = rs })
  ends_as walk ws rs le over walked ridden =
      subst (λ (xs : List Ride). IsBuilt n h from depart all to (record { depart = depart; walks = ws; rides = xs })) (sym ridden)
      (subst (λ (xs : List (List NodeNo)). IsBuilt n h from depart all to (record { depart = depart; walks = xs; rides = all })) (sym walked) (ends walk le over))

module _ (n : Network) (h : Parts) (from : NodeNo) (depart : ℕ) (all : List Ride) (to : NodeNo) where
  -- a journey that is built has no ride that is missed
  pub built_whole : (journey : Journey) → IsBuilt n h from depart all to journey → IsBroken n h from depart all to → ⊥
  built_whole journey built broken =
      unbroken h built.leads (All-weaker (IsLeastWay (streets n) h) (IsSuited n h) (λ walk way. least_suits n h walk way) journey.walks built.ways)
      (subst (λ (d : ℕ). IsBroken n h from d journey.rides to) (sym built.departs) (subst (λ (xs : List Ride). IsBroken n h from depart xs to) (sym built.same_rides) broken))

  pub built_rides : (journey : Journey) → IsBuilt n h from depart all to journey → HasRides n from depart all to
  built_rides journey built = record { journey = journey; departs = built.departs; same_rides = built.same_rides; arrive = built.arrive; leads = built.leads }

  pub no_journey : IsNetwork n → GivesDistances (streets n) h → IsBroken n h from depart all to → HasRides n from depart all to → ⊥
  no_journey ok gives broken has =
      unbroken h has.leads (λ k d lt. distance_suits n h ok gives (get_or has.journey.walks k d))
      (subst (λ (d : ℕ). IsBroken n h from d has.journey.rides to) (sym has.departs) (subst (λ (xs : List Ride). IsBroken n h from depart xs to) (sym has.same_rides) broken))

  pub least_walks : (journey : Journey) → IsBuilt n h from depart all to journey → IsNetwork n → GivesDistances (streets n) h → All (IsLeastWalk (streets n)) journey.walks
  least_walks journey built ok gives = All-weaker (IsLeastWay (streets n) h) (IsLeastWalk (streets n)) (λ walk way. least_walk n h ok gives walk way) journey.walks built.ways
