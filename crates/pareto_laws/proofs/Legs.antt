-- Journeys whose walks are least, as their rides alone, the last one first, and the marks by which they are compared.
use Rattle.std.proofs.Common.{◌≡◌, ℕ, ◌+◌, ◌<◌, ◌≤◌, ◌⊎◌, List, [], ◌∷◌, length, refl, arith, Option, Some, None}
use Rattle.std.specs.Prelude.{Contains}
use Rattle.move_model.specs.declared.network.Network.{Network}
use Rattle.move_model.specs.declared.network.NodeNo.{NodeNo}
use Rattle.move_model.specs.declared.network.StopNo.{StopNo}
use Rattle.move_model.specs.declared.network.Call.{Call}
use Rattle.move_model.specs.declared.journey.Ride.{Ride}
use Rattle.move_model.specs.declared.journey.Shortcut.{Shortcut}
use Rattle.move_model.specs.Streets.{IsWalk, IsDistance}
use Rattle.move_model.specs.Network.{IsNetwork, node_of, streets}
use Rattle.move_model.specs.Journey.{IsRide, Travels}
use Rattle.move_model.specs.Journey.Travels.{walks, rides}
use Rattle.move_model.specs.Shortcut.{entry_of, IsLess}
use Rattle.pareto_laws.proofs.Walks.{IsWalk-append}
use Rattle.pareto_laws.proofs.Distances.{distance_within}

-- a ride, the calls where it is boarded and left, and the second at which the passenger is ready for it
pub record Leg : Type 0 where
  pub ride : Ride
  pub on : Call
  pub off : Call
  pub ready : ℕ

-- where the passenger is after these legs, from s, and since when, from second d
abbrev pub place : Network → NodeNo → List Leg → NodeNo
place n s [] = s
place n s (leg ∷ legs) = node_of n leg.off.stop

abbrev pub since : ℕ → List Leg → ℕ
since d [] = d
since d (leg ∷ legs) = leg.off.arr

-- by these legs and a least walk to v at second r
pub record Reaches (n : Network) (s : NodeNo) (d : ℕ) (legs : List Leg) (v : NodeNo) (r : ℕ) : Type 0 where
  pub walk : ℕ
  pub distance : IsDistance (streets n) (place n s legs) v walk
  pub second_is : r ≡ since d legs + walk

-- the leg goes on from the legs before it
pub record GoesOn (n : Network) (s : NodeNo) (d : ℕ) (legs : List Leg) (leg : Leg) : Type 0 where
  pub is_ride : IsRide n leg.ride leg.on leg.off
  pub reaches : Reaches n s d legs (node_of n leg.on.stop) leg.ready
  pub in_time : leg.ready + n.buffer ≤ leg.on.dep

abbrev pub IsChain : Network → NodeNo → ℕ → List Leg → Type 0
IsChain n s d [] = Unit {0}
IsChain n s d (leg ∷ legs) = GoesOn n s d legs leg × IsChain n s d legs

-- 0 where the next ride is boarded at this stop, and otherwise 1 more than the stop
abbrev pub change : StopNo → Option StopNo → ℕ
change x None = 1 + x.0
change x (Some y) = entry_of x y

-- The marks of the legs, the last leg first. Among chains of equally many legs to one place the one with the lesser
-- second there and then the lesser marks comes first. `next` is the stop where the ride behind is boarded.
abbrev pub marks : Option StopNo → List Leg → List ℕ
marks next [] = []
marks next (leg ∷ legs) =
    leg.off.arr ∷ change leg.off.stop next ∷ leg.ride.trip.0 ∷ leg.ready ∷ leg.on.stop.0 ∷ marks (Some leg.on.stop) legs

-- each transfer stays at its stop or is in the list
abbrev pub StaysOrListed : List Shortcut → Leg → Leg → Type 0
StaysOrListed list leg next =
    (leg.off.stop ≡ next.on.stop) ⊎ ((m : ℕ) × Contains list (record { from = leg.off.stop; to = next.on.stop; seconds = m }))

abbrev pub AllListed : List Shortcut → List Leg → Type 0
AllListed list [] = Unit {0}
AllListed list (leg ∷ []) = Unit {0}
AllListed list (next ∷ leg ∷ legs) = StaysOrListed list leg next × AllListed list (leg ∷ legs)

-- other legs to v, no later than r, that come first in the order
pub record IsBeaten (n : Network) (s : NodeNo) (d : ℕ) (v : NodeNo) (next : Option StopNo) (legs : List Leg) (r : ℕ) : Type 0 where
  pub others : List Leg
  pub chain : IsChain n s d others
  pub second : ℕ
  pub reaches : Reaches n s d others v second
  pub no_later : second ≤ r
  pub falls : (length others < length legs) ⊎ ((length others ≡ length legs) × IsLess (second ∷ marks next others) (r ∷ marks next legs))

module _ (n : Network) (ok : IsNetwork n) (s : NodeNo) (d : ℕ) where
  -- from a place that is reached, on by a walk
  pub reach_on : (legs : List Leg) (a b : NodeNo) (vs : List NodeNo) (r m : ℕ) → Reaches n s d legs a r → IsWalk (streets n) a vs b m
      → (k : ℕ) × Reaches n s d legs b k × (k ≤ r + m)
  reach_on legs a b vs r m at walk =
      let whole = IsWalk-append at.distance.attained.1 walk in
      let least = distance_within (streets n) ok.streets_join whole.1 in
      (since d legs + least.0, record { walk = least.0; distance = least.1; second_is = refl }, omega (arith, at.second_is, least.2))

  -- from the place where the legs end
  pub reach_from : (legs : List Leg) (b : NodeNo) (vs : List NodeNo) (m : ℕ) → IsWalk (streets n) (place n s legs) vs b m
      → (k : ℕ) × Reaches n s d legs b k × (k ≤ since d legs + m)
  reach_from legs b vs m walk =
      let least = distance_within (streets n) ok.streets_join walk in
      (since d legs + least.0, record { walk = least.0; distance = least.1; second_is = refl }, omega (arith, least.2))

  -- these legs lead to t by `arrive`, and are so many
  pub record LeadsBy (t : NodeNo) (arrive many : ℕ) : Type 0 where
    pub legs : List Leg
    pub chain : IsChain n s d legs
    pub second : ℕ
    pub reaches : Reaches n s d legs t second
    pub no_later : second ≤ arrive
    pub count : length legs ≡ many

  -- the rest of a journey as legs, each walk replaced by a least one. The legs before it lead to each place no later
  pub least_legs : {p t : NodeNo} {q arrive : ℕ} {ws : List (List NodeNo)} {rs : List Ride} → Travels n p q ws rs t arrive
      → (legs : List Leg) → IsChain n s d legs
      → ((b : NodeNo) (vs : List NodeNo) (m : ℕ) → IsWalk (streets n) p vs b m → (k : ℕ) × Reaches n s d legs b k × (k ≤ q + m))
      → LeadsBy t arrive (length rs + length legs)
  least_legs {t = t} (walks {m = m} {walk = walk} is) legs chain reach =
      let end = reach t walk m is in
      record { legs = legs; chain = chain; second = end.0; reaches = end.1; no_later = end.2; count = omega arith }
  least_legs {q = q} (rides {m = m} {walk = walk} {ride = ride} {rides = rest} {on = on} {off = off} is is_ride in_time further) legs chain reach =
      let board = reach (node_of n on.stop) walk m is in
      let leg : Leg = record { ride = ride; on = on; off = off; ready = board.0 } in
      let goes : GoesOn n s d legs leg = record { is_ride = is_ride; reaches = board.1; in_time = omega (arith, board.2) } in
      let all = least_legs further (leg ∷ legs) (goes, chain) (reach_from (leg ∷ legs)) in
      record { legs = all.legs; chain = all.chain; second = all.second; reaches = all.reaches; no_later = all.no_later; count = omega (arith, all.count) }
