-- Every transfer between different stops is a pair of the list of all pairs, so each journey is one of listed transfers.
use Rattle.std.proofs.Common.{◌≡◌, ℕ, ◌<◌, ◌⊎◌, List, ◌∷◌, length, refl, ap, subst, inl, inr, arith}
use Rattle.std.specs.Prelude.{Contains}
use Rattle.std.proofs.lemmas.Bool.{cases_eq}
use Rattle.move_model.specs.declared.network.Network.{Network}
use Rattle.move_model.specs.declared.network.NodeNo.{NodeNo}
use Rattle.move_model.specs.declared.network.StopNo.{StopNo}
use Rattle.move_model.specs.declared.network.Call.{Call}
use Rattle.move_model.specs.declared.journey.Ride.{Ride}
use Rattle.move_model.specs.declared.journey.Shortcut.{Shortcut}
use Rattle.move_model.specs.Streets.{IsWalk}
use Rattle.move_model.specs.Network.{IsNetwork, node_of, streets}
use Rattle.move_model.specs.Journey.{IsRide, Travels}
use Rattle.move_model.specs.Journey.Travels.{walks, rides}
use Rattle.move_model.specs.Shortcut.{TransfersListed, Suffices}
use Rattle.pareto_laws.specs.TransferList.{HoldsDistances, IsAllPairs}
use Rattle.pareto_laws.proofs.Distances.{distance_within}
use Rattle.pareto_laws.proofs.Calls.{stop_eq, on_same, off_same, on_stands, off_stands}

module _ (n : Network) (ok : IsNetwork n) (list : List Shortcut) (all : IsAllPairs n list) where
  listed_walk : (x y : StopNo) (vs : List NodeNo) (m : ℕ) → x.0 < length n.stops → y.0 < length n.stops
      → IsWalk (streets n) (node_of n x) vs (node_of n y) m → (x ≡ y) ⊎ ((l : ℕ) × Contains list (record { from = x; to = y; seconds = l }))
  listed_walk x y vs m x_stands y_stands walk = elim (cases_eq x.0 y.0) [
    | inl same ↦ inl (stop_eq x y same)
    | inr other ↦
        let least = distance_within (streets n) ok.streets_join walk in
        inr (
          least.0,
          (all (record { from = x; to = y; seconds = least.0 })).1
              (record {
                from_stands = x_stands;
                to_stands = y_stands;
                different = λ e. other (ap (λ (v : StopNo). v.0) e);
                distance = least.1;
              }),
        )
  ]

  -- between a ride that is left at `off` and the rides after it
  rest_listed : {p t : NodeNo} {r arrive : ℕ} {ws : List (List NodeNo)} {rs : List Ride} → Travels n p r ws rs t arrive
      → (ride : Ride) (on off : Call) → IsRide n ride on off → p ≡ node_of n off.stop → TransfersListed n list (ride ∷ rs)
  rest_listed (walks is) ride on off is_ride at = tt
  rest_listed (rides {m = m} {walk = walk} {ride = next} {on = on'} {off = off'} is is_next in_time further) ride on off is_ride at = (
    λ a b a' b' ride_is next_is.
        let e = off_same n ride on off a b is_ride ride_is in
        let f = on_same n next on' off' a' b' is_next next_is in
        let there = subst (λ (v : NodeNo). IsWalk (streets n) v walk (node_of n on'.stop) m) at is in
        listed_walk b.stop a'.stop walk m (off_stands n ok ride a b ride_is) (on_stands n ok next a' b' next_is)
        (subst (λ (c : Call). IsWalk (streets n) (node_of n c.stop) walk (node_of n a'.stop) m) e
        (subst (λ (c : Call). IsWalk (streets n) (node_of n off.stop) walk (node_of n c.stop) m) f there)),
    rest_listed further next on' off' is_next refl,
  )

  transfers_listed : {p t : NodeNo} {r arrive : ℕ} {ws : List (List NodeNo)} {rs : List Ride} → Travels n p r ws rs t arrive
      → TransfersListed n list rs
  transfers_listed (walks is) = tt
  transfers_listed (rides {ride = ride} {on = on} {off = off} is is_ride in_time further) = rest_listed further ride on off is_ride refl

  pub all_pairs_suffice : Suffices n list
  all_pairs_suffice s t journey arrive is =
      record {
        journey = journey;
        arrives = arrive;
        departs = refl;
        leads = is;
        no_later = omega arith;
        no_more = omega arith;
        listed = transfers_listed is;
      }

pub all_pairs_hold_distances : (n : Network) (list : List Shortcut) → IsAllPairs n list → HoldsDistances n list
all_pairs_hold_distances n list all entry h = ((all entry).0 h).distance
