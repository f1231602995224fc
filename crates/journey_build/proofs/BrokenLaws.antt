-- No journey has rides of which one is missed, as far as its walks are no shorter than the least sums of the hierarchy.
use Rattle.std.proofs.Common.{◌≡◌, ◌∙◌, ◌+◌, ◌≤◌, ◌⊎◌, ℕ, List, [], ◌∷◌, Some, None, sym, ap, subst, inl, inr, arith}
use Rattle.std.specs.Prelude.{All}
use Rattle.std.proofs.lemmas.List.Elements.{All-nil, All-cons, All-head, All-tail}
use Rattle.move_model.specs.declared.network.Network.{Network}
use Rattle.move_model.specs.declared.network.NodeNo.{NodeNo}
use Rattle.move_model.specs.declared.network.Call.{Call}
use Rattle.move_model.specs.declared.journey.Ride.{Ride}
use Rattle.move_model.specs.Streets.{IsVertex, IsWalk, IsDistance}
use Rattle.move_model.specs.Streets.IsWalk.{stays, goes}
use Rattle.move_model.specs.Network.{IsNetwork, streets, node_of}
use Rattle.move_model.specs.Journey.{IsRide, Travels}
use Rattle.move_model.specs.Found.{IsLeastWalk}
use Rattle.move_model.specs.Journey.Travels.{walks, rides}
use Rattle.pareto_laws.proofs.Calls.{on_same, off_same}
use Rattle.pareto_laws.proofs.Walks.{walk_first, walk_last, walk_same, IsWalk-begins, IsWalk-ends}
use Rattle.walk_laws.specs.Sums.{IsLeast}
use Rattle.walk_hierarchy.specs.Hierarchy.{Parts, IsUpDownSum, GivesDistances}
use Rattle.walk_hierarchy.proofs.WayLaws.{no_twice}
use Rattle.journey_build.specs.Built.{IsLeastWay, IsMissed, IsBroken}
use Rattle.journey_build.specs.Built.IsMissed.{no_ride, no_way, too_late}
use Rattle.journey_build.specs.Built.IsBroken.{at_end, here, later}

-- a walk of m seconds from p to q does for the hierarchy: it leads on there, in no more seconds
pub record Suits (h : Parts) (p q : NodeNo) (m : ℕ) : Type 0 where
  pub leads_on : ((k : ℕ) → IsUpDownSum h p q k → ⊥) → ⊥
  pub no_less : (k : ℕ) → IsLeast (IsUpDownSum h p q) k → k ≤ m

abbrev pub IsSuited : Network → Parts → List NodeNo → Type 0
IsSuited n h walk = (p q : NodeNo) (m : ℕ) → IsWalk (streets n) p walk q m → Suits h p q m

-- the same by recursion on the rides
BrokenAt : Network → Parts → List Ride → NodeNo → ℕ → NodeNo → Type 0
BrokenAt n h [] p r t = (m : ℕ) → IsUpDownSum h p t m → ⊥
BrokenAt n h (ride ∷ more) p r t =
    IsMissed n h p r ride ⊎ ((on : Call) × ((off : Call) × (IsRide n ride on off × BrokenAt n h more (node_of n off.stop) off.arr t)))

broken_at : {n : Network} {h : Parts} {p t : NodeNo} {r : ℕ} {rs : List Ride} → IsBroken n h p r rs t → BrokenAt n h rs p r t
unfolding BrokenAt
broken_at (at_end none) = none
broken_at (here missed) = inl missed
broken_at (later {on = on} {off = off} is rest) = inr (on, (off, (is, broken_at rest)))

boards : (n : Network) (h : Parts) (p : NodeNo) (r m : ℕ) (ride : Ride) (on off : Call) → Suits h p (node_of n on.stop) m → IsRide n ride on off
    → r + m + n.buffer ≤ on.dep → IsMissed n h p r ride → ⊥
boards n h p r m ride on off suits is in_time (no_ride none) = none on off is
boards n h p r m ride on off suits is in_time (no_way {on = on'} {off = off'} is' none) =
    let same : on' ≡ on = on_same n ride on' off' on off is' is in
    suits.leads_on (subst (λ (c : Call). (k : ℕ) → IsUpDownSum h p (node_of n c.stop) k → ⊥) same none)
boards n h p r m ride on off suits is in_time (too_late {on = on'} {off = off'} {m = k} is' least late) =
    let same : on' ≡ on = on_same n ride on' off' on off is' is in
    omega (
      arith,
      suits.no_less k (subst (λ (c : Call). IsLeast (IsUpDownSum h p (node_of n c.stop)) k) same least),
      ap (λ (c : Call). c.dep) same,
      late,
      in_time,
    )

unbroken_at : {n : Network} (h : Parts) {p t : NodeNo} {r a : ℕ} {ws : List (List NodeNo)} {rs : List Ride} → Travels n p r ws rs t a
    → All (IsSuited n h) ws → BrokenAt n h rs p r t → ⊥
unfolding BrokenAt
unbroken_at {n} h (walks {p = p} {t = t} {m = m} {walk = walk} is) all none = (All-head (IsSuited n h) walk [] all p t m is).leads_on none
unbroken_at {n} h (rides {p = p} {t = t} {r = r} {m = m} {walk = walk} {walks = ws} {ride = ride} {rides = rs} {on = on} {off = off} is is_ride in_time rest) all broken =
    elim broken [
      | inl missed ↦ boards n h p r m ride on off (All-head (IsSuited n h) walk ws all p (node_of n on.stop) m is) is_ride in_time missed
      | inr further ↦
          let same : further.1.0 ≡ off = off_same n ride further.0 further.1.0 on off further.1.1.0 is_ride in
          unbroken_at h rest (All-tail (IsSuited n h) walk ws all) (subst (λ (c : Call). BrokenAt n h rs (node_of n c.stop) c.arr t) same further.1.1.1)
    ]

pub unbroken : {n : Network} (h : Parts) {p t : NodeNo} {r a : ℕ} {ws : List (List NodeNo)} {rs : List Ride} → Travels n p r ws rs t a
    → All (IsSuited n h) ws → IsBroken n h p r rs t → ⊥
unbroken h travels all broken = unbroken_at h travels all (broken_at broken)

-- a walk that has the least sum suits
pub least_suits : (n : Network) (h : Parts) (walk : List NodeNo) → IsLeastWay (streets n) h walk → IsSuited n h walk
least_suits n h walk way p q m is =
    let none : NodeNo = record { 0 = 0 } in
    let from : way.from ≡ p = sym (walk_first none way.way.walks).1 ∙ (walk_first none is).1 in
    let to : way.to ≡ q = sym (walk_last none way.way.walks).0 ∙ (walk_last none is).0 in
    let at_p : IsWalk (streets n) p walk way.to way.way.seconds = subst (λ (v : NodeNo). IsWalk (streets n) v walk way.to way.way.seconds) from way.way.walks in
    let seconds : way.way.seconds ≡ m = walk_same at_p is in
    let least : IsLeast (IsUpDownSum h p q) way.way.seconds =
    subst (λ (v : NodeNo). IsLeast (IsUpDownSum h p v) way.way.seconds) to (subst (λ (v : NodeNo). IsLeast (IsUpDownSum h v way.to) way.way.seconds) from way.way.least) in
    record {
      leads_on = λ nothing. nothing way.way.seconds least.attained;
      no_less = λ k other. omega (arith, other.least way.way.seconds least.attained, seconds);
    }

module _ (n : Network) (h : Parts) (ok : IsNetwork n) (gives : GivesDistances (streets n) h) where
  -- where the least sums are distances, each walk suits
  pub distance_suits : (walk : List NodeNo) → IsSuited n h walk
  distance_suits walk p q m is =
      let at_p : IsVertex (streets n) p = IsWalk-begins (streets n) ok.streets_join is in
      let at_q : IsVertex (streets n) q = IsWalk-ends (streets n) ok.streets_join is in
      record {
        leads_on = λ none. (gives.distances p q None at_p at_q).0 none walk m is;
        no_less = λ k least. ((gives.distances p q (Some k) at_p at_q).0 least).least walk m is;
      }

  vertices : {a b : NodeNo} {walk : List NodeNo} {m : ℕ} → IsWalk (streets n) a walk b m → All (IsVertex (streets n)) walk
  vertices (stays at) = All-cons (IsVertex (streets n)) _ [] at (All-nil (IsVertex (streets n)))
  vertices (goes {a = a} {vs = vs} arc rest) = All-cons (IsVertex (streets n)) a vs (IsWalk-begins (streets n) ok.streets_join (goes arc rest)) (vertices rest)

  pub least_walk : (walk : List NodeNo) → IsLeastWay (streets n) h walk → IsLeastWalk (streets n) walk
  least_walk walk way =
      let at_p : IsVertex (streets n) way.from = IsWalk-begins (streets n) ok.streets_join way.way.walks in
      let at_q : IsVertex (streets n) way.to = IsWalk-ends (streets n) ok.streets_join way.way.walks in
      let distance : IsDistance (streets n) way.from way.to way.way.seconds = (gives.distances way.from way.to (Some way.way.seconds) at_p at_q).0 way.way.least in
      record {
        from = way.from;
        to = way.to;
        seconds = way.way.seconds;
        walks = way.way.walks;
        least = distance;
        no_vertex_twice = no_twice (streets n) way.way.walks (vertices way.way.walks) way.way.no_idle_circle distance.least;
      }
