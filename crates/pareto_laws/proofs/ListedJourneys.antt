-- Over a list of distances that suffices, listed journeys and the walk on foot stand for all journeys.
use Rattle.std.proofs.Common.{◌≡◌, ℕ, ◌+◌, ◌<◌, ◌≤◌, ◌⊎◌, List, [], ◌∷◌, length, get_or, refl, sym, ap, ◌∙◌, subst, inl, inr, arith, Option, Some, None}
use Rattle.std.specs.Prelude.{Contains, slice_get}
use Rattle.std.proofs.lemmas.Option.{slice_get-get_or, get_or_from_slice_get}
use Rattle.move_model.specs.declared.network.Network.{Network}
use Rattle.move_model.specs.declared.network.NodeNo.{NodeNo}
use Rattle.move_model.specs.declared.network.StopNo.{StopNo}
use Rattle.move_model.specs.declared.network.Call.{Call}
use Rattle.move_model.specs.declared.journey.Ride.{Ride}
use Rattle.move_model.specs.declared.journey.Journey.{Journey}
use Rattle.move_model.specs.declared.journey.Shortcut.{Shortcut}
use Rattle.move_model.specs.Streets.{IsWalk, IsDistance, HasDistance}
use Rattle.move_model.specs.Streets.IsWalk.{stays}
use Rattle.move_model.specs.Network.{IsNetwork, IsStopDistance, node_of, streets}
use Rattle.move_model.specs.Journey.{IsRide, Travels, IsJourney}
use Rattle.move_model.specs.Journey.Travels.{walks, rides}
use Rattle.move_model.specs.Shortcut.{TransferListed, TransfersListed, Suffices}
use Rattle.move_model.specs.Listed.{HasEntry, HoldsFirst, HoldsLast, HasTransfer, GoesOnListed, IsListed, HasRides, HasListedRides, HasFoot, ListedSuffice}
use Rattle.move_model.specs.Listed.GoesOnListed.{ends, boards}
use Rattle.move_model.specs.Listed.IsListed.{begins}
use Rattle.pareto_laws.specs.TransferList.{HoldsDistances}
use Rattle.pareto_laws.proofs.Distances.{distance_same, distance_within}
use Rattle.pareto_laws.proofs.Calls.{on_same, off_same, on_stands, off_stands, vertex_of_stop}

-- the transfers of a listed journey are listed

transfer_between : (n : Network) (list : List Shortcut) (ride next : Ride) (on off on' off' : Call) (m : ℕ)
    → IsRide n ride on off → IsRide n next on' off' → HasTransfer list off.stop on'.stop m → TransferListed n list ride next
transfer_between n list ride next on off on' off' m is is' h a b a' b' ride_is next_is =
    let e = off_same n ride on off a b is ride_is in
    let f = on_same n next on' off' a' b' is' next_is in
    subst (λ (c : Call). (c.stop ≡ a'.stop) ⊎ ((k : ℕ) × Contains list (record { from = c.stop; to = a'.stop; seconds = k }))) e
    (subst (λ (c : Call). (off.stop ≡ c.stop) ⊎ ((k : ℕ) × Contains list (record { from = off.stop; to = c.stop; seconds = k }))) f
    (elim h [ inl same ↦ inl same.0 | inr listed ↦ inr (m, listed) ]))

rest_transfers : {n : Network} {last : List (Option ℕ)} {list : List Shortcut} {x : StopNo} {r arrive : ℕ} {rs : List Ride}
    → GoesOnListed n last list x r rs arrive → (ride : Ride) (on off : Call) → IsRide n ride on off → off.stop ≡ x
    → TransfersListed n list (ride ∷ rs)
rest_transfers (ends entry) ride on off is at = tt
rest_transfers {n} {list = list} (boards {m = m} {ride = next} {on = on'} {off = off'} transfer is' in_time further) ride on off is at = (
  transfer_between n list ride next on off on' off' m is is' (subst (λ v. HasTransfer list v on'.stop m) (sym at) transfer),
  rest_transfers further next on' off' is' refl,
)

listed_transfers : {n : Network} {first last : List (Option ℕ)} {list : List Shortcut} {d arrive : ℕ} {rs : List Ride}
    → IsListed n first last list d rs arrive → TransfersListed n list rs
listed_transfers (begins {ride = ride} {on = on} {off = off} entry is in_time further) = rest_transfers further ride on off is refl

-- a distance that is there is what HasDistance has
distance_known : (n : Network) (a b : NodeNo) (m : ℕ) (o : Option ℕ) → IsDistance (streets n) a b m
    → HasDistance (streets n) a b o → o ≡ Some m
distance_known n a b m None is has = absurd (has is.attained.0 m is.attained.1)
distance_known n a b m (Some l) is has = ap Some (distance_same has is)

entry_of_index : (row : List (Option ℕ)) (k m : ℕ) → k < length row → get_or row k None ≡ Some m → slice_get row k ≡ Some (Some m)
entry_of_index row k m within e = slice_get-get_or row k None within ∙ ap Some e

index_of_entry : (row : List (Option ℕ)) (k m : ℕ) → slice_get row k ≡ Some (Some m) → get_or row k None ≡ Some m
index_of_entry row k m e = get_or_from_slice_get row k (Some m) None e

module _ (n : Network) (ok : IsNetwork n) (list : List Shortcut) (distances : HoldsDistances n list) (s t : NodeNo)
    (first last : List (Option ℕ)) (from_s : HoldsFirst n s first) (to_t : HoldsLast n t last) where
  -- entries are distances, and distances are entries

  listed_distance : (x y : StopNo) (m : ℕ) → Contains list (record { from = x; to = y; seconds = m }) → IsStopDistance n x y m
  listed_distance x y m h = distances (record { from = x; to = y; seconds = m }) h

  first_distance : (x : StopNo) (m : ℕ) → x.0 < length n.stops → HasEntry first x m → IsDistance (streets n) s (node_of n x) m
  first_distance x m within e =
      subst (λ o. HasDistance (streets n) s (node_of n x) o) (index_of_entry first x.0 m e) (from_s.distances x within)

  last_distance : (x : StopNo) (m : ℕ) → x.0 < length n.stops → HasEntry last x m → IsDistance (streets n) (node_of n x) t m
  last_distance x m within e =
      subst (λ o. HasDistance (streets n) (node_of n x) t o) (index_of_entry last x.0 m e) (to_t.distances x within)

  first_entry : (x : StopNo) (m : ℕ) → x.0 < length n.stops → IsDistance (streets n) s (node_of n x) m → HasEntry first x m
  first_entry x m within is =
      entry_of_index first x.0 m (omega (arith, from_s.one_each)) (distance_known n s (node_of n x) m _ is (from_s.distances x within))

  last_entry : (x : StopNo) (m : ℕ) → x.0 < length n.stops → IsDistance (streets n) (node_of n x) t m → HasEntry last x m
  last_entry x m within is =
      entry_of_index last x.0 m (omega (arith, to_t.one_each)) (distance_known n (node_of n x) t m _ is (to_t.distances x within))

  -- a listed journey as a journey

  transfer_walk : (x y : StopNo) (m : ℕ) → x.0 < length n.stops → HasTransfer list x y m
      → (vs : List NodeNo) × IsWalk (streets n) (node_of n x) vs (node_of n y) m
  transfer_walk x y m within (inl h) = (
    node_of n x ∷ [],
    subst (λ (v : StopNo). IsWalk (streets n) (node_of n x) (node_of n x ∷ []) (node_of n v) m) h.0
        (subst (λ k. IsWalk (streets n) (node_of n x) (node_of n x ∷ []) (node_of n x) k) (sym h.1) (stays (vertex_of_stop n ok x within))),
  )
  transfer_walk x y m within (inr h) = (listed_distance x y m h).attained

  rest_of : {x : StopNo} {r arrive : ℕ} {rs : List Ride} → GoesOnListed n last list x r rs arrive → x.0 < length n.stops
      → (ws : List (List NodeNo)) × Travels n (node_of n x) r ws rs t arrive
  rest_of {x} (ends {m = m} entry) within =
      let walk = (last_distance x m within entry).attained in
      (walk.0 ∷ [], walks walk.1)
  rest_of {x} (boards {m = m} {ride = ride} {on = on} {off = off} transfer is in_time further) within =
      let walk = transfer_walk x on.stop m within transfer in
      let rest = rest_of further (off_stands n ok ride on off is) in
      (walk.0 ∷ rest.0, rides walk.1 is in_time rest.1)

  real : (d : ℕ) (rs : List Ride) (arrive : ℕ) → IsListed n first last list d rs arrive → HasRides n s d t rs arrive
  real d rs arrive (begins {m = m} {ride = ride} {rides = after} {on = on} {off = off} entry is in_time further) =
      let walk = (first_distance on.stop m (on_stands n ok ride on off is) entry).attained in
      let rest = rest_of further (off_stands n ok ride on off is) in
      record {
        journey = record { depart = d; walks = walk.0 ∷ rest.0; rides = ride ∷ after };
        departs = refl;
        rides_are = refl;
        leads = rides walk.1 is in_time rest.1;
      }

  -- a journey of listed transfers as a listed journey

  -- from stop x at second r by these rides to t, no later
  record EndsBy (x : StopNo) (r : ℕ) (rs : List Ride) (arrive : ℕ) : Type 0 where
    arrives : ℕ
    goes_on : GoesOnListed n last list x r rs arrives
    no_later : arrives ≤ arrive

  -- a walk between two stops takes no less than the list's transfer
  transfer_within : (x y : StopNo) (vs : List NodeNo) (m : ℕ) → IsWalk (streets n) (node_of n x) vs (node_of n y) m
      → (x ≡ y) ⊎ ((k : ℕ) × Contains list (record { from = x; to = y; seconds = k })) → (l : ℕ) × HasTransfer list x y l × (l ≤ m)
  transfer_within x y vs m walk (inl e) = (0, inl (e, refl), omega arith)
  transfer_within x y vs m walk (inr (k, h)) = (k, inr h, (listed_distance x y k h).least vs m walk)

  rest_by : {p : NodeNo} {r arrive : ℕ} {ws : List (List NodeNo)} {rs : List Ride} → Travels n p r ws rs t arrive
      → (ride : Ride) (on off : Call) → IsRide n ride on off → p ≡ node_of n off.stop → TransfersListed n list (ride ∷ rs)
      → EndsBy off.stop r rs arrive
  rest_by {r = r} (walks {m = m} {walk = walk} is) ride on off is_ride at listed =
      let least = distance_within (streets n) ok.streets_join (subst (λ (v : NodeNo). IsWalk (streets n) v walk t m) at is) in
      record {
        arrives = r + least.0;
        goes_on = ends (last_entry off.stop least.0 (off_stands n ok ride on off is_ride) least.1);
        no_later = omega (arith, least.2);
      }
  rest_by {r = r} (rides {m = m} {walk = walk} {ride = next} {on = on'} {off = off'} is is_next in_time further) ride on off is_ride at listed =
      let transfer = transfer_within off.stop on'.stop walk m (subst (λ (v : NodeNo). IsWalk (streets n) v walk (node_of n on'.stop) m) at is)
      (listed.0 on off on' off' is_ride is_next) in
      let rest = rest_by further next on' off' is_next refl listed.1 in
      record {
        arrives = rest.arrives;
        goes_on = boards transfer.1 is_next (omega (arith, transfer.2, in_time)) rest.goes_on;
        no_later = rest.no_later;
      }

  foot_or_listed : {d arrive : ℕ} {ws : List (List NodeNo)} {rs : List Ride} → Travels n s d ws rs t arrive → TransfersListed n list rs
      → HasFoot n s t d arrive ⊎ HasListedRides n first last list d arrive (length rs)
  foot_or_listed (walks is) listed =
      let least = distance_within (streets n) ok.streets_join is in
      inl (record { seconds = least.0; foot = least.1; no_later = omega (arith, least.2) })
  foot_or_listed (rides {ride = ride} {rides = after} {on = on} {off = off} is is_ride in_time further) listed =
      let least = distance_within (streets n) ok.streets_join is in
      let rest = rest_by further ride on off is_ride refl listed in
      inr (record {
        rides = ride ∷ after;
        arrives = rest.arrives;
        listed = begins (first_entry on.stop least.0 (on_stands n ok ride on off is_ride) least.1) is_ride (omega (arith, least.2, in_time)) rest.goes_on;
        no_later = rest.no_later;
        no_more = omega arith;
      })

  module _ (suffices : Suffices n list) where
    enough : (journey : Journey) (arrive : ℕ) → IsJourney n s journey t arrive
        → HasFoot n s t journey.depart arrive ⊎ HasListedRides n first last list journey.depart arrive (length journey.rides)
    enough journey arrive is =
        let has = suffices s t journey arrive is in
        let d : ℕ = journey.depart in
        let there : Travels n s d has.journey.walks has.journey.rides t has.arrives =
        subst (λ k. Travels n s k has.journey.walks has.journey.rides t has.arrives) has.departs has.leads in
        elim (foot_or_listed there has.listed) [
          | inl f ↦ inl (record { seconds = f.seconds; foot = f.foot; no_later = omega (arith, f.no_later, has.no_later) })
          | inr h ↦ inr (record {
            rides = h.rides;
            arrives = h.arrives;
            listed = h.listed;
            no_later = omega (arith, h.no_later, has.no_later);
            no_more = omega (arith, h.no_more, has.no_more);
          })
        ]

    pub listed_suffice : ListedSuffice n s t first last list
    listed_suffice = record { real = real; transfers = λ d rs arrive is. listed_transfers is; enough = enough }
