-- A journey leg by leg: what the loop over its walks and rides keeps.
use Rattle.std.proofs.Common.{◌≡◌, ℕ, suc, ◌+◌, ◌<◌, ◌≤◌, ◌↔◌, ◌-◌, ◌∙◌, add-one, drop-cons, drop, get_or, List, [], ◌∷◌, length, refl, sym, ap, subst, arith, IsTrue, false, true≢false, Option, Some, None, is_some, inl, inr}
use Rattle.std.specs.Prelude.{slice_get}
use Rattle.std.proofs.lemmas.Bool.{cases_lt}
use Rattle.std.proofs.lemmas.Option.{get_or_from_slice_get}
use Rattle.std.proofs.lemmas.List.{drop_all, get_or_default}
use Rattle.move_model.specs.declared.network.Network.{Network}
use Rattle.move_model.specs.declared.network.NodeNo.{NodeNo}
use Rattle.move_model.specs.declared.network.Call.{Call}
use Rattle.move_model.specs.declared.journey.Ride.{Ride}
use Rattle.move_model.specs.declared.journey.Journey.{Journey}
use Rattle.move_model.specs.Streets.{IsWalk, HasWalkSeconds}
use Rattle.move_model.specs.Network.{streets, node_of}
use Rattle.move_model.specs.Journey.{IsRide, Travels, IsSomeJourney}
use Rattle.move_model.specs.Journey.Travels.{walks, rides}
use Rattle.pareto_laws.specs.Leg.{IsLeg, LeadsOn}
use Rattle.pareto_laws.proofs.Calls.{on_same, off_same}
use Rattle.pareto_laws.proofs.Walks.{walk_first, walk_last, walk_same}

-- from p at second r by these walks and rides to some place at some second
abbrev pub ToSomewhere : Network → NodeNo → ℕ → List (List NodeNo) → List Ride → Type 0
ToSomewhere n p r ws rs = (t : NodeNo) × ((arrive : ℕ) × Travels n p r ws rs t arrive)

-- a walk and a ride lead to one place at one second
leg_same : (n : Network) (p : NodeNo) (r : ℕ) (walk : List NodeNo) (ride : Ride) (q q' : NodeNo) (a a' : ℕ)
    → IsLeg n p r walk ride q a → IsLeg n p r walk ride q' a' → (q ≡ q') × (a ≡ a')
leg_same n p r walk ride q q' a a' leg leg' =
    let e = off_same n ride leg.on leg.off leg'.on leg'.off leg.is_ride leg'.is_ride in
    (leg.left_at ∙ (ap (λ (c : Call). node_of n c.stop) e ∙ sym leg'.left_at), leg.left_when ∙ (ap (λ (c : Call). c.arr) e ∙ sym leg'.left_when))

-- the first leg of a journey, and the rest
record LegAndRest (n : Network) (p : NodeNo) (r : ℕ) (walk : List NodeNo) (ride : Ride) (ws : List (List NodeNo)) (rs : List Ride)
    (t : NodeNo) (arrive : ℕ) : Type 0 where
  place : NodeNo
  second : ℕ
  leg : IsLeg n p r walk ride place second
  rest : Travels n place second ws rs t arrive

leg_of : {n : Network} {p t : NodeNo} {r arrive : ℕ} {walk : List NodeNo} {ride : Ride} {ws : List (List NodeNo)} {rs : List Ride}
    → Travels n p r (walk ∷ ws) (ride ∷ rs) t arrive → LegAndRest n p r walk ride ws rs t arrive
leg_of {n} (rides {m = m} {on = on} {off = off} is_walk is_ride in_time rest) =
    record {
      place = node_of n off.stop;
      second = off.arr;
      leg = record { on = on; off = off; seconds = m; is_ride = is_ride; is_walk = is_walk; in_time = in_time; left_at = refl; left_when = refl };
      rest = rest;
    }

no_leg : (n : Network) (p : NodeNo) (r : ℕ) (walk : List NodeNo) (ride : Ride) (ws : List (List NodeNo)) (rs : List Ride)
    → ((q : NodeNo) (a : ℕ) → IsLeg n p r walk ride q a → ⊥) → ToSomewhere n p r (walk ∷ ws) (ride ∷ rs) → ⊥
no_leg n p r walk ride ws rs none (t, (arrive, is)) = let l = leg_of is in none l.place l.second l.leg

leg_on : (n : Network) (p : NodeNo) (r : ℕ) (walk : List NodeNo) (ride : Ride) (ws : List (List NodeNo)) (rs : List Ride) (q : NodeNo) (a : ℕ)
    → IsLeg n p r walk ride q a → ToSomewhere n p r (walk ∷ ws) (ride ∷ rs) ↔ ToSomewhere n q a ws rs
leg_on n p r walk ride ws rs q a leg = (there, back)
  where
    there : ToSomewhere n p r (walk ∷ ws) (ride ∷ rs) → ToSomewhere n q a ws rs
    there (t, (arrive, is)) =
        let l = leg_of is in
        let e = leg_same n p r walk ride l.place q l.second a l.leg leg in
        (t, (arrive, subst (λ v. Travels n v a ws rs t arrive) e.0 (subst (λ k. Travels n l.place k ws rs t arrive) e.1 l.rest)))

    back : ToSomewhere n q a ws rs → ToSomewhere n p r (walk ∷ ws) (ride ∷ rs)
    back (t, (arrive, is)) = (
      t,
      (
        arrive,
        rides leg.is_walk leg.is_ride leg.in_time
            (subst (λ v. Travels n v leg.off.arr ws rs t arrive) leg.left_at (subst (λ k. Travels n q k ws rs t arrive) leg.left_when is)),
      ),
    )

-- the last walk leads to somewhere
last_on : (n : Network) (p : NodeNo) (r : ℕ) (walk : List NodeNo) → ToSomewhere n p r (walk ∷ []) [] ↔ LeadsOn n p walk
last_on n p r walk = (λ h. there h.1.1, λ h. (h.to, (r + h.seconds, walks h.is_walk)))
  where
    there : {t : NodeNo} {arrive : ℕ} → Travels n p r (walk ∷ []) [] t arrive → LeadsOn n p walk
    there {t} (walks {m = m} is) = record { to = t; seconds = m; is_walk = is }

-- a journey has one walk more than rides, and its first walk begins where it begins
travels_shape : {n : Network} {p t : NodeNo} {r arrive : ℕ} {ws : List (List NodeNo)} {rs : List Ride} (d : NodeNo)
    → Travels n p r ws rs t arrive → (length ws ≡ length rs + 1) × (0 < length (get_or ws 0 [])) × (get_or (get_or ws 0 []) 0 d ≡ p)
travels_shape d (walks is) = let h = walk_first d is in (omega arith, h.0, h.1)
travels_shape d (rides is is_ride in_time rest) = let h = walk_first d is in (omega (arith, (travels_shape d rest).0), h.0, h.1)

pub journey_shape : (n : Network) (journey : Journey) → IsSomeJourney n journey
    → (length journey.walks ≡ length journey.rides + 1) × (0 < length (get_or journey.walks 0 []))
journey_shape n journey (s, t, arrive, is) = let h = travels_shape (record { 0 = 0 }) is in (h.0, h.1)

-- at the start
pub from_start : (n : Network) (journey : Journey) (p d : NodeNo) → p ≡ get_or (get_or journey.walks 0 []) 0 d
    → ToSomewhere n p journey.depart journey.walks journey.rides ↔ IsSomeJourney n journey
from_start n journey p d first = (λ h. (p, h.0, h.1.0, h.1.1), back)
  where
    back : IsSomeJourney n journey → ToSomewhere n p journey.depart journey.walks journey.rides
    back (s, t, arrive, is) =
        (t, (arrive, subst (λ v. Travels n v journey.depart journey.walks journey.rides t arrive) (sym (first ∙ (travels_shape d is).2)) is))

-- two ways to say the same
joined : {A B C : Type 0} → A ↔ B → B ↔ C → A ↔ C
joined h g = (λ a. g.0 (h.0 a), λ c. h.1 (g.1 c))

turned : {A B : Type 0} → A ↔ B → B ↔ A
turned h = (h.1, h.0)

-- at the i-th walk, from p at second r; what is left of the walks and rides leads to somewhere exactly where P holds
module _ (n : Network) (ws : List (List NodeNo)) (rs : List Ride) (d : Ride) (shape : length ws ≡ length rs + 1) (i : ℕ) (p : NodeNo) (r : ℕ)
    {P : Type 0} (so_far : ToSomewhere n p r (drop i ws) (drop i rs) ↔ P) (walk : List NodeNo) where
  module _ (within : i < length rs) (walk_is : walk ≡ get_or ws i []) where
    unfolded : ToSomewhere n p r (walk ∷ drop (i + 1) ws) (get_or rs i d ∷ drop (i + 1) rs) ↔ P
    unfolded =
        let h : i < length ws = omega arith in
        let walk_there : drop i ws ≡ get_or ws i [] ∷ drop (i + 1) ws = rw add-one (drop-cons ws i [] h) in
        let ride_there : drop i rs ≡ get_or rs i d ∷ drop (i + 1) rs = rw add-one (drop-cons rs i d within) in
        rw walk_is (rw (walk_there, ride_there) at so_far)

    pub stuck : ((q : NodeNo) (a : ℕ) → IsLeg n p r walk (get_or rs i d) q a → ⊥) → P → ⊥
    stuck none h = no_leg n p r walk (get_or rs i d) (drop (i + 1) ws) (drop (i + 1) rs) none (unfolded.1 h)

    pub further : (q : NodeNo) (a : ℕ) → IsLeg n p r walk (get_or rs i d) q a → ToSomewhere n q a (drop (i + 1) ws) (drop (i + 1) rs) ↔ P
    further q a leg = joined (turned (leg_on n p r walk (get_or rs i d) (drop (i + 1) ws) (drop (i + 1) rs) q a leg)) unfolded

  pub at_end : length rs ≤ i → i ≤ length rs → walk ≡ get_or ws (length rs) [] → LeadsOn n p walk ↔ P
  at_end past upto walk_is =
      let e : i ≡ length rs = omega arith in
      let h : length rs < length ws = omega arith in
      let walk_there : drop (length rs) ws ≡ get_or ws (length rs) [] ∷ [] = rw (drop-cons ws (length rs) [] h, drop_all (suc (length rs)) ws (omega arith)) in
      let no_ride : drop (length rs) rs ≡ [] = drop_all (length rs) rs (omega arith) in
      joined (turned (last_on n p r walk)) (rw walk_is (rw (e, walk_there, no_ride) at so_far))

-- the test of the last walk, by its last vertex
pub leads_on_test : (n : Network) (p to : NodeNo) (walk : List NodeNo) (o : Option ℕ) → Some to ≡ slice_get walk (length walk - 1)
    → HasWalkSeconds (streets n) p walk to o → IsTrue (is_some o) ↔ LeadsOn n p walk
leads_on_test n p to walk (Some m) end has = (λ e. record { to = to; seconds = m; is_walk = has }, λ h. refl)
leads_on_test n p to walk None end has = (
  λ e. absurd (true≢false (sym e)),
  λ h.
      let last : h.to ≡ to = sym (walk_last to h.is_walk).0 ∙ get_or_from_slice_get walk (length walk - 1) to to (sym end) in
      absurd (has h.seconds (subst (λ v. IsWalk (streets n) p walk v h.seconds) last h.is_walk)),
)

-- a bound that does not hold
pub beyond : (a d : ℕ) → (IsTrue false ↔ (a ≤ d)) → d < a
beyond a d test = elim (cases_lt d a) [ inl l ↦ l | inr h ↦ absurd (true≢false (sym (test.1 h))) ]

-- a test that says no where there is none
pub says_no : {P : Type 0} → (P → ⊥) → IsTrue false ↔ P
says_no none = (λ e. absurd (true≢false (sym e)), λ h. absurd (none h))

-- a walk and a ride with other seconds than those that are known
pub leg_late : (n : Network) (p : NodeNo) (r : ℕ) (walk : List NodeNo) (ride : Ride) (on off : Call) (seconds : ℕ) → IsRide n ride on off
    → IsWalk (streets n) p walk (node_of n on.stop) seconds → on.dep < r + seconds + n.buffer → (q : NodeNo) (a : ℕ) → IsLeg n p r walk ride q a → ⊥
leg_late n p r walk ride on off seconds is_ride is_walk late q a leg =
    let e = on_same n ride leg.on leg.off on off leg.is_ride is_ride in
    let there = subst (λ (c : Call). IsWalk (streets n) p walk (node_of n c.stop) leg.seconds) e leg.is_walk in
    omega (arith, leg.in_time, walk_same there is_walk, ap (λ (c : Call). c.dep) e)

pub leg_unjoined : (n : Network) (p : NodeNo) (r : ℕ) (walk : List NodeNo) (ride : Ride) (on off : Call) → IsRide n ride on off
    → ((m : ℕ) → IsWalk (streets n) p walk (node_of n on.stop) m → ⊥) → (q : NodeNo) (a : ℕ) → IsLeg n p r walk ride q a → ⊥
leg_unjoined n p r walk ride on off is_ride none q a leg =
    let e = on_same n ride leg.on leg.off on off leg.is_ride is_ride in
    none leg.seconds (subst (λ (c : Call). IsWalk (streets n) p walk (node_of n c.stop) leg.seconds) e leg.is_walk)

-- an element by another default
pub item_is : (xs : List (List NodeNo)) (i : ℕ) (v w : List NodeNo) → i < length xs → w ≡ v → v ≡ get_or xs i v → w ≡ get_or xs i []
item_is xs i v w within e f = e ∙ (f ∙ get_or_default xs i v [] within)
