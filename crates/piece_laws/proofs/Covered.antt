-- Journeys with at most one ride.
use Rattle.std.proofs.Common.{◌≡◌, ℕ, ◌+◌, ◌≤◌, List, [], ◌∷◌, length, refl, sym, subst, arith}
use Rattle.move_model.specs.declared.network.Network.{Network}
use Rattle.move_model.specs.declared.network.NodeNo.{NodeNo}
use Rattle.move_model.specs.declared.network.StopNo.{StopNo}
use Rattle.move_model.specs.declared.journey.Ride.{Ride}
use Rattle.move_model.specs.declared.network.Call.{Call}
use Rattle.move_model.specs.Streets.{IsWalk, IsDistance}
use Rattle.move_model.specs.Streets.IsWalk.{stays}
use Rattle.move_model.specs.Network.{IsNetwork, node_of, streets, IsStopDistance}
use Rattle.move_model.specs.Journey.{IsRide, Travels}
use Rattle.move_model.specs.Journey.Travels.{walks, rides}
use Rattle.move_model.specs.Shortcut.{entry_of}
use Rattle.piece_laws.specs.declared.labels.Ready.{Ready}
use Rattle.piece_laws.specs.Pieces.{IsFootDistance, HasReady, IsCovered, IsOnFoot}
use Rattle.piece_laws.proofs.Rides.{call_vertex}
use Rattle.pareto_laws.proofs.Walks.{IsWalk-append}
use Rattle.pareto_laws.proofs.Distances.{distance_within}

module _ (n : Network) (q : NodeNo) where
  pub covered_more : (z : ℕ) (v : StopNo) (a b : ℕ) → IsCovered n q z v a → a ≤ b → IsCovered n q z v b
  covered_more z v a b c h =
      record { journey = c.journey; arrive = c.arrive; departs = c.departs; few = c.few; leads = c.leads; no_later = omega (arith, c.no_later) }

  pub covered_by_walk : (z : ℕ) (v : StopNo) (m a : ℕ) → IsFootDistance n q v m → z + m ≤ a → IsCovered n q z v a
  covered_by_walk z v m a d h =
      record {
        journey = record { depart = z; walks = d.attained.0 ∷ []; rides = [] };
        arrive = z + m;
        departs = refl;
        few = omega arith;
        leads = walks d.attained.1;
        no_later = h;
      }

  pub covered_by_ride : (z : ℕ) (v : StopNo) (l : Ready) (a : ℕ) → HasReady n q z v l → l.ready ≤ a → IsCovered n q z v a
  covered_by_ride z v l a r h =
      let f = r.first in
      let on : IsStopDistance n f.off.stop v r.walk = subst (λ (x : StopNo). IsStopDistance n x v r.walk) (sym f.left_at) r.between in
      record {
        journey = record { depart = z; walks = f.to_it.attained.0 ∷ on.attained.0 ∷ []; rides = f.ride ∷ [] };
        arrive = f.off.arr + r.walk;
        departs = refl;
        few = omega arith;
        leads = rides f.to_it.attained.1 f.is_ride f.in_time (walks on.attained.1);
        no_later = omega (arith, f.left_by, r.ready_is);
      }

  -- a journey goes on by a walk
  pub travels_on : {p t t' : NodeNo} {r a m : ℕ} {ws : List (List NodeNo)} {rs : List Ride} {vs : List NodeNo}
      → Travels n p r ws rs t a → IsWalk (streets n) t vs t' m → (us : List (List NodeNo)) × Travels n p r us rs t' (a + m)
  travels_on {t' = t'} {m = m} (walks {p = p} {r = r} {m = l} walk) on =
      let w = IsWalk-append walk on in
      (w.0 ∷ [], subst (λ k. Travels n p r (w.0 ∷ []) [] t' k) (omega arith) (walks {r = r} w.1))
  travels_on (rides {walk = walk} w is h rest) on =
      let g = travels_on rest on in
      (walk ∷ g.0, rides w is h g.1)

  pub covered_on : (z : ℕ) (w v : StopNo) (a m : ℕ) → IsCovered n q z w a → IsStopDistance n w v m → IsCovered n q z v (a + m)
  covered_on z w v a m c d =
      let g = travels_on c.leads d.attained.1 in
      record {
        journey = record { depart = c.journey.depart; walks = g.0; rides = c.journey.rides };
        arrive = c.arrive + m;
        departs = c.departs;
        few = c.few;
        leads = g.1;
        no_later = omega (arith, c.no_later);
      }

  -- from an earlier second, too
  travels_earlier : {p t : NodeNo} {r r' a : ℕ} {ws : List (List NodeNo)} {rs : List Ride} → r' ≤ r
      → Travels n p r ws rs t a → (b : ℕ) × Travels n p r' ws rs t b × (b ≤ a)
  travels_earlier {r' = r'} h (walks {m = m} walk) = (r' + m, walks walk, omega arith)
  travels_earlier {a = a} h (rides {on = on} w is k rest) = (a, rides w is (omega (arith, k)) rest, omega arith)

  pub covered_earlier : (z z' : ℕ) (v : StopNo) (a : ℕ) → z' ≤ z → IsCovered n q z v a → IsCovered n q z' v a
  covered_earlier z z' v a h c =
      let g = travels_earlier {r' = z'} (omega (arith, c.departs)) c.leads in
      record {
        journey = record { depart = z'; walks = c.journey.walks; rides = c.journey.rides };
        arrive = g.0;
        departs = refl;
        few = c.few;
        leads = g.1;
        no_later = omega (arith, g.2, c.no_later);
      }

  -- walking, or one ride between two walks
  pub data CoveredCases (z : ℕ) (v : StopNo) (a : ℕ) : Type 0 where
    on_foot : (m : ℕ) → IsFootDistance n q v m → z + m ≤ a → CoveredCases z v a
    one_ride : (l : Ready) → HasReady n q z v l → l.ready ≤ a → CoveredCases z v a

  module _ (ok : IsNetwork n) where
    foot_of : {p t : NodeNo} {r b : ℕ} {ws : List (List NodeNo)} {rs : List Ride} → Travels n p r ws rs t b → length rs ≡ 0
        → (m : ℕ) × IsDistance (streets n) p t m × (r + m ≤ b)
    foot_of (walks walk) e = let d = distance_within (streets n) ok.streets_join walk in (d.0, d.1, omega (arith, d.2))
    foot_of (rides w is k rest) e = absurd (omega arith)

    cases_of : (z : ℕ) (v : StopNo) (a b : ℕ) {ws : List (List NodeNo)} {rs : List Ride} → length rs ≤ 1
        → Travels n q z ws rs (node_of n v) b → b ≤ a → CoveredCases z v a
    cases_of z v a b few (walks walk) h =
        let d = distance_within (streets n) ok.streets_join walk in
        on_foot d.0 d.1 (omega (arith, d.2))
    cases_of z v a b few (rides {ride = ride} {on = on} {off = off} w is k rest) h =
        let d = distance_within (streets n) ok.streets_join w in
        let e = foot_of rest (omega arith) in
        one_ride (record { ready = off.arr + e.0; a1 = off.arr; c = entry_of off.stop v }) (record {
          from = off.stop;
          first = record { ride = ride; on = on; off = off; is_ride = is; walk = d.0; to_it = d.1; in_time = omega (arith, d.2); left_at = refl; left_by = refl };
          walk = e.0;
          between = e.1;
          ready_is = refl;
          c_is = refl;
        }) (omega (arith, e.2))

    pub covered_cases : (z : ℕ) (v : StopNo) (a : ℕ) → IsCovered n q z v a → CoveredCases z v a
    covered_cases z v a c =
        cases_of z v a c.arrive c.few
        (subst (λ k. Travels n q k c.journey.walks c.journey.rides (node_of n v) c.arrive) c.departs c.leads) c.no_later

  -- on foot to a ride
  pub covered_by_foot : (z : ℕ) (y : StopNo) (ride : Ride) (on off : Call) {a : ℕ} → IsOnFoot n q z y a → IsRide n ride on off
      → on.stop ≡ y → a + n.buffer ≤ on.dep → IsNetwork n → IsCovered n q z off.stop off.arr
  covered_by_foot z y ride on off f is at in_time ok =
      let to : IsFootDistance n q on.stop f.seconds = subst (λ (s : StopNo). IsFootDistance n q s f.seconds) (sym at) f.foot in
      let there = call_vertex n ok ride.trip ride.alight off is.leaves in
      record {
        journey = record { depart = z; walks = to.attained.0 ∷ (node_of n off.stop ∷ []) ∷ []; rides = ride ∷ [] };
        arrive = off.arr + 0;
        departs = refl;
        few = omega arith;
        leads = rides to.attained.1 is (omega (arith, f.no_later)) (walks (stays there));
        no_later = omega arith;
      }
