-- How late the best pairs arrive in a network within the limits.
use Rattle.std.proofs.Common.{◌≡◌, ℕ, ◌+◌, ◌≤◌, List, [], ◌∷◌, ap, subst, arith}
use Rattle.std.specs.Prelude.{All, Some, slice_get}
use Rattle.std.proofs.lemmas.Option.{slice_get_within, get_or_from_slice_get}
use Rattle.move_model.specs.declared.network.Network.{Network}
use Rattle.move_model.specs.declared.network.NodeNo.{NodeNo}
use Rattle.move_model.specs.declared.network.TripNo.{TripNo}
use Rattle.move_model.specs.declared.network.Trip.{Trip}
use Rattle.move_model.specs.declared.network.Call.{Call}
use Rattle.move_model.specs.declared.journey.Ride.{Ride}
use Rattle.move_model.specs.declared.journey.Journey.{Journey}
use Rattle.move_model.specs.declared.journey.Pair.{Pair}
use Rattle.move_model.specs.Network.{streets}
use Rattle.move_model.specs.Journey.{HasCall, Travels, HasPair, IsBest}
use Rattle.move_model.specs.Journey.Travels.{walks, rides}
use Rattle.move_model.specs.Check.{KeepsRules, Stays}
use Rattle.pareto_laws.proofs.Distances.{distance_within}
use Rattle.pareto_laws.proofs.DistanceBound.{distance_within_limits}

at_place : {X : Type 0} (P : X → Type 0) (xs : List X) (k : ℕ) (x : X) → All P xs → slice_get xs k ≡ Some x → P x
at_place P xs k x all e = subst P (get_or_from_slice_get xs k x x e) (all k x (slice_get_within xs k x e))

-- no call arrives after the last second of a day
arrives_in_day : (n : Network) (trip : TripNo) (k : ℕ) (call : Call) → KeepsRules n → HasCall n trip k call → call.arr ≤ 3599999
arrives_in_day n trip k call rules (t, is_trip, is_call) =
    let stays = at_place Stays t.calls k call (at_place (λ (t : Trip). All Stays t.calls) n.trips trip.0 t rules.within_day is_trip) is_call in
    omega (arith, stays.0, stays.1)

-- the same rides with a least last walk
record Sooner (n : Network) (p : NodeNo) (r : ℕ) (rides : List Ride) (t : NodeNo) (arrive : ℕ) : Type 0 where
  walks : List (List NodeNo)
  sooner : ℕ
  travels : Travels n p r walks rides t sooner
  no_later : sooner ≤ arrive
  bound : sooner ≤ 2000003599999

sooner : (n : Network) → KeepsRules n → {p t : NodeNo} {r arrive : ℕ} {ws : List (List NodeNo)} {rs : List Ride}
    → Travels n p r ws rs t arrive → r ≤ 3599999 → Sooner n p r rs t arrive
sooner n rules (walks {p} {t} {r} {m} {walk} is) h =
    let least = distance_within (streets n) rules.network.streets_join is in
    let short = distance_within_limits (streets n) rules.network.streets_join rules.has_nodes.1 rules.arcs_short p t least.0 least.1 in
    record {
      walks = least.1.attained.0 ∷ [];
      sooner = r + least.0;
      travels = walks least.1.attained.1;
      no_later = omega (arith, least.2);
      bound = omega (arith, short, h);
    }
sooner n rules (rides {p} {t} {r} {m} {arrive} {walk} {walks = ws} {ride} {rides = rs} {on} {off} is ride_is time rest) h =
    let on_time = arrives_in_day n ride.trip ride.alight off rules ride_is.leaves in
    let there = sooner n rules rest on_time in
    record {
      walks = walk ∷ there.walks;
      sooner = there.sooner;
      travels = rides is ride_is time there.travels;
      no_later = there.no_later;
      bound = there.bound;
    }

pub best_arrives : (n : Network) (s : NodeNo) (d : ℕ) (t : NodeNo) (limit : ℕ) (pair : Pair) → KeepsRules n → d ≤ 3599999 → IsBest n s d t limit pair → pair.arrive ≤ 2000003599999
best_arrives n s d t limit pair rules day best =
    let old = best.attained in
    let leaves : old.journey.depart ≤ 3599999 = omega (arith, day, old.departs) in
    let there = sooner n rules old.arrives leaves in
    let journey : Journey = record { depart = old.journey.depart; walks = there.walks; rides = old.journey.rides } in
    let other : Pair = record { arrive = there.sooner; trips = pair.trips } in
    let has : HasPair n s d t other = record { journey = journey; departs = old.departs; arrives = there.travels; rides = old.rides } in
    let same : other ≡ pair = best.best other best.within has (there.no_later, omega arith) in
    omega (arith, there.bound, ap (λ (p : Pair). p.arrive) same)
