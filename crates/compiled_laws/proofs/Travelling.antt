-- Journeys by least walks: those with given rides are there, and arrive when the rows say.
use Rattle.std.proofs.Common.{◌≡◌, ◌∙◌, ℕ, ◌+◌, ◌<◌, ◌≤◌, List, [], ◌∷◌, length, sym, ap, subst, arith, Option, Some, None}
use Rattle.std.specs.Prelude.{All}
use Rattle.std.proofs.lemmas.Option.{get_or_from_slice_get}
use Rattle.std.proofs.lemmas.List.Elements.{All-cons, All-nil, All-head, All-tail}
use Rattle.move_model.specs.declared.network.Network.{Network}
use Rattle.move_model.specs.declared.network.NodeNo.{NodeNo}
use Rattle.move_model.specs.declared.network.StopNo.{StopNo}
use Rattle.move_model.specs.declared.network.Call.{Call}
use Rattle.move_model.specs.declared.journey.Ride.{Ride}
use Rattle.move_model.specs.Streets.{IsWalk, IsDistance, HasDistance}
use Rattle.move_model.specs.Network.{IsNetwork, streets, node_of}
use Rattle.move_model.specs.Journey.{Travels}
use Rattle.move_model.specs.Journey.Travels.{walks, rides}
use Rattle.move_model.specs.declared.journey.Shortcut.{Shortcut}
use Rattle.move_model.specs.Listed.{HasEntry, HoldsLast, GoesOnListed, IsListed}
use Rattle.move_model.specs.Listed.GoesOnListed.{ends, boards}
use Rattle.move_model.specs.Listed.IsListed.{begins}
use Rattle.pareto_laws.proofs.Calls.{off_same, off_stands}
use Rattle.pareto_laws.proofs.Walks.{walk_first, walk_last, walk_same, IsWalk-begins, IsWalk-ends}
use Rattle.pareto_laws.proofs.Distances.{distance_same, distance_within}
use Rattle.walk_hierarchy.specs.Hierarchy.{Parts, GivesDistances}
use Rattle.move_model.specs.Found.{IsLeastWalk}
use Rattle.network_file.specs.Answers.{HasLeastSum}

module _ (n : Network) (ok : IsNetwork n) where
  -- the least walk between two ends of a walk
  module _ (h : Parts) (gives : GivesDistances (streets n) h) where
    record IsShorter (p q : NodeNo) (m : ℕ) : Type 0 where
      walk : List NodeNo
      seconds : ℕ
      leads : IsWalk (streets n) p walk q seconds
      no_longer : seconds ≤ m
      least : HasLeastSum (streets n) h walk

    shorter : {p q : NodeNo} {walk : List NodeNo} {m : ℕ} → IsWalk (streets n) p walk q m → IsShorter p q m
    shorter {p} {q} is =
        let by = distance_within (streets n) ok.streets_join is in
        record {
          walk = by.1.attained.0;
          seconds = by.0;
          leads = by.1.attained.1;
          no_longer = by.2;
          least = record {
            from = p;
            to = q;
            seconds = by.0;
            walks = by.1.attained.1;
            least = (gives.distances p q (Some by.0) (IsWalk-begins (streets n) ok.streets_join is) (IsWalk-ends (streets n) ok.streets_join is)).1 by.1;
          };
        }

    pub record ByLeastWalks (p : NodeNo) (r : ℕ) (rs : List Ride) (t : NodeNo) : Type 0 where
      pub ways : List (List NodeNo)
      pub arrive : ℕ
      pub leads : Travels n p r ways rs t arrive
      pub least : All (HasLeastSum (streets n) h) ways

    -- each walk of a journey may be replaced by a least one
    pub by_least_walks : {p t : NodeNo} {r a : ℕ} {ws : List (List NodeNo)} {rs : List Ride} → Travels n p r ws rs t a → ByLeastWalks p r rs t
    by_least_walks {r = r} (walks is) =
        let by = shorter is in
        record {
          ways = by.walk ∷ [];
          arrive = r + by.seconds;
          leads = walks by.leads;
          least = All-cons (HasLeastSum (streets n) h) by.walk [] by.least (All-nil (HasLeastSum (streets n) h));
        }
    by_least_walks (rides is is_ride in_time rest) =
        let by = shorter is in
        let on = by_least_walks rest in
        record {
          ways = by.walk ∷ on.ways;
          arrive = on.arrive;
          leads = rides by.leads is_ride (omega (arith, by.no_longer, in_time)) on.leads;
          least = All-cons (HasLeastSum (streets n) h) by.walk on.ways by.least on.least;
        }

  -- a least walk has the seconds of the distance between its ends
  pub least_seconds : {p q : NodeNo} {walk : List NodeNo} {m : ℕ} → IsWalk (streets n) p walk q m → IsLeastWalk (streets n) walk → IsDistance (streets n) p q m
  least_seconds {p} {q} {walk} {m} is least =
      let none : NodeNo = record { 0 = 0 } in
      let from : least.from ≡ p = sym (walk_first none least.walks).1 ∙ (walk_first none is).1 in
      let to : least.to ≡ q = sym (walk_last none least.walks).0 ∙ (walk_last none is).0 in
      let at_p : IsDistance (streets n) p least.to least.seconds = subst (λ (v : NodeNo). IsDistance (streets n) v least.to least.seconds) from least.least in
      let at_q : IsDistance (streets n) p q least.seconds = subst (λ (v : NodeNo). IsDistance (streets n) p v least.seconds) to at_p in
      let walk_p : IsWalk (streets n) p walk least.to least.seconds = subst (λ (v : NodeNo). IsWalk (streets n) v walk least.to least.seconds) from least.walks in
      let seconds : least.seconds ≡ m = walk_same walk_p is in
      subst (λ (k : ℕ). IsDistance (streets n) p q k) seconds at_q

  module _ (t : NodeNo) (last : List (Option ℕ)) (list : List Shortcut) (holds : HoldsLast n t last) where
    entry_distance : (x : StopNo) (m : ℕ) → x.0 < length n.stops → HasEntry last x m → IsDistance (streets n) (node_of n x) t m
    entry_distance x m within e =
        subst (λ o. HasDistance (streets n) (node_of n x) t o) (get_or_from_slice_get last x.0 (Some m) None e) (holds.distances x within)

    -- by the same rides and least walks a journey ends when the rows say
    ends_with : {p : NodeNo} {r a : ℕ} {ws : List (List NodeNo)} {rs : List Ride} → Travels n p r ws rs t a → (x : StopNo) (r' a' : ℕ)
        → x.0 < length n.stops → All (IsLeastWalk (streets n)) ws → GoesOnListed n last list x r' rs a' → p ≡ node_of n x → r ≡ r' → a ≡ a'
    ends_with (walks {m = m} {walk = walk} is) x r' a' within all (ends {m = k} entry) at second =
        let there = least_seconds (subst (λ (v : NodeNo). IsWalk (streets n) v walk t m) at is) (All-head (IsLeastWalk (streets n)) walk [] all) in
        omega (arith, second, distance_same there (entry_distance x k within entry))
    ends_with (rides {walk = walk} {walks = ws} {ride = ride} {on = on} {off = off} is is_ride in_time rest) x r' a' within all (boards {on = on'} {off = off'} transfer is_ride' in_time' further) at second =
        let same : off ≡ off' = off_same n ride on off on' off' is_ride is_ride' in
        ends_with rest off'.stop off'.arr a' (off_stands n ok ride on' off' is_ride') (All-tail (IsLeastWalk (streets n)) walk ws all) further
        (ap (λ (c : Call). node_of n c.stop) same) (ap (λ (c : Call). c.arr) same)

    pub arrives_as_listed : {first : List (Option ℕ)} {s : NodeNo} {d d' a a' : ℕ} {ws : List (List NodeNo)} {rs : List Ride} → Travels n s d ws rs t a
        → All (IsLeastWalk (streets n)) ws → IsListed n first last list d' rs a' → a ≡ a'
    arrives_as_listed (walks is) all listed = elim listed [ ]
    arrives_as_listed {a' = a'} (rides {walk = walk} {walks = ws} {ride = ride} {on = on} {off = off} is is_ride in_time rest) all (begins {on = on'} {off = off'} entry is_ride' in_time' further) =
        let same : off ≡ off' = off_same n ride on off on' off' is_ride is_ride' in
        ends_with rest off'.stop off'.arr a' (off_stands n ok ride on' off' is_ride') (All-tail (IsLeastWalk (streets n)) walk ws all) further
        (ap (λ (c : Call). node_of n c.stop) same) (ap (λ (c : Call). c.arr) same)

  -- on foot by a least walk
  pub arrives_on_foot : {s t : NodeNo} {d a m : ℕ} {ws : List (List NodeNo)} → Travels n s d ws [] t a
      → All (IsLeastWalk (streets n)) ws → IsDistance (streets n) s t m → a ≡ d + m
  arrives_on_foot (walks {walk = walk} is) all foot =
      omega (arith, distance_same (least_seconds is (All-head (IsLeastWalk (streets n)) walk [] all)) foot)
