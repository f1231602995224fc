-- The ways of a table of levels are journeys, and none is earlier.
use Rattle.std.proofs.Common.{◌≡◌, ℕ, zero, suc, ◌+◌, ◌-◌, ◌<◌, ◌≤◌, List, [], ◌∷◌, length, get_or, map, refl, sym, ◌∙◌, ap, subst, inl, inr, arith, Option, Some, None}
use Rattle.std.proofs.Math.ListN.{get_or-eq_default, get_or-map}
use Rattle.std.proofs.lemmas.Bool.{cases_lt}
use Rattle.std.proofs.lemmas.List.{length-map}
use Rattle.std.proofs.lemmas.Option.{same_Some, slice_get-get_or, get_or_from_slice_get}
use Rattle.move_model.specs.declared.network.Network.{Network}
use Rattle.move_model.specs.declared.network.NodeNo.{NodeNo}
use Rattle.move_model.specs.declared.network.Call.{Call}
use Rattle.move_model.specs.declared.journey.Ride.{Ride}
use Rattle.move_model.specs.Streets.{IsVertex, IsWalk, IsDistance, HasDistance}
use Rattle.move_model.specs.Streets.IsWalk.{stays, goes}
use Rattle.move_model.specs.Network.{streets, IsNetwork, node_of}
use Rattle.move_model.specs.Journey.{IsRide, Travels, HasArrival, HasEarliest}
use Rattle.move_model.specs.Journey.Travels.{walks, rides}
use Rattle.plain_search.specs.declared.way.Way.{Way}
use Rattle.plain_search.specs.Row.{Ways, IsWayTo, second_of, HasWayBy, IsWalked}
use Rattle.plain_search.specs.Ridden.{IsCaught}
use Rattle.plain_search.specs.Levels.{Starts, IsLevel, IsTable}
use Rattle.plain_search.specs.Levels.Starts.{at_source, off_ride}
use Rattle.plain_search.specs.Answer.{HoldsDistances, HoldsEarliest}
use Rattle.plain_search.proofs.Rows.{by_later}
use Rattle.plain_search.proofs.StreetLaws.{arc_ends, IsWalk-begins}
use Rattle.plain_search.proofs.LevelLaws.{none_before}

-- the one way of a row

pub same_way : (row : Ways) (v : NodeNo) (a b : Way) → IsWayTo row v a → IsWayTo row v b → a ≡ b
same_way row v a b first second = same_Some a b (same_Some (Some a) (Some b) (sym first ∙ second))

pub way_by : (row : Ways) (v : NodeNo) (way : Way) (m : ℕ) → IsWayTo row v way → HasWayBy row v m → way.second ≤ m
way_by row v way m at has = omega (arith, has.no_later, ap (λ (w : Way). w.second) (same_way row v way has.way at has.stands))

pub way_here : (row : Ways) (v : NodeNo) (way : Way) → IsWayTo row v way → HasWayBy row v way.second
way_here row v way at = record { way = way; stands = at; no_later = omega arith }

none_some : {X : Type 0} (x : X) → None ≡ Some x → ⊥
none_some x e = cc

pub entry_way : (row : Ways) (v : NodeNo) (way : Way) → get_or row v.0 None ≡ Some way → IsWayTo row v way
entry_way row v way e = elim (cases_lt v.0 (length row)) [
  | inl within ↦ slice_get-get_or row v.0 None within ∙ ap Some e
  | inr past ↦ absurd (none_some way (sym (get_or-eq_default row None past) ∙ e))
]

pub entry_none : (row : Ways) (v : NodeNo) (m : ℕ) → get_or row v.0 None ≡ None → HasWayBy row v m → ⊥
entry_none row v m e has = none_some has.way (sym e ∙ get_or_from_slice_get row v.0 (Some has.way) None has.stands)

-- what leads on

-- from a vertex, where the passenger is at exactly this second, to t
abbrev pub LeadsOn : Network → NodeNo → ℕ → List (List NodeNo) → List Ride → NodeNo → ℕ → Type 0
LeadsOn n v second ws rs t arrive =
    (p : NodeNo) (r m : ℕ) (walk : List NodeNo) → IsWalk (streets n) p walk v m → r + m ≡ second → Travels n p r (walk ∷ ws) rs t arrive

pub leads_to : (n : Network) (t : NodeNo) (arrive : ℕ) → LeadsOn n t arrive [] [] t arrive
leads_to n t arrive p r m walk is e = subst (λ a. Travels n p r (walk ∷ []) [] t a) e (walks is)

-- by the way to where the ride is boarded
pub from_ride : (n : Network) (before : Ways) (ride : Ride) (on off : Call) (ws : List (List NodeNo)) (rs : List Ride) (t : NodeNo) (arrive : ℕ) (way : Way)
    → IsRide n ride on off → IsCaught n before on → IsWayTo before (node_of n on.stop) way
    → Travels n (node_of n off.stop) off.arr ws rs t arrive
    → LeadsOn n (node_of n on.stop) way.second ws (ride ∷ rs) t arrive
from_ride n before ride on off ws rs t arrive way is_ride caught at further p r m walk is e =
    rides is is_ride (omega (arith, e, caught.in_time, way_by before (node_of n on.stop) way caught.ready at caught.has_way)) further

-- walking on

module _ (n : Network) (ok : IsNetwork n) where
  pub walked_along : (row : Ways) → length row ≡ n.nodes + 1 → IsWalked n.arcs row
      → {a b : NodeNo} {vs : List NodeNo} {k : ℕ} → IsWalk (streets n) a vs b k → (m : ℕ) → HasWayBy row a m → HasWayBy row b (m + k)
  walked_along row one_each walked (stays is) m has = by_later has (omega arith)
  walked_along row one_each walked {a} {b} (goes {v = v} {l = l} {m = k} arc rest) m has =
      let ends = arc_ends (streets n) ok.streets_join arc.attained in
      let there : HasWayBy row v (m + l) =
      walked (record { from = a; to = v; seconds = l }) m arc.attained (omega (arith, ends.1.to_nodes, one_each)) has in
      by_later (walked_along row one_each walked rest (m + l) there) (omega arith)

  -- a way takes its seconds exactly, by a least walk
  pub record Exact (s : NodeNo) (d : ℕ) (before : Ways) (v : NodeNo) (way : Way) : Type 0 where
    pub place : NodeNo
    pub since : ℕ
    pub starts : Starts n s d before place since way.ride
    pub seconds : ℕ
    pub walked : IsWalk (streets n) place way.walk v seconds
    pub least : IsDistance (streets n) place v seconds
    pub second_is : since + seconds ≡ way.second

  pub exact : (s : NodeNo) (d : ℕ) (before row : Ways) → IsLevel n s d before row → (v : NodeNo) (way : Way) → IsWayTo row v way → Exact s d before v way
  exact s d before row level v way at =
      let is = level.ways v way at in
      let along : (vs : List NodeNo) (k : ℕ) → IsWalk (streets n) is.place vs v k → way.second ≤ is.since + k =
      λ vs k walk. way_by row v way (is.since + k) at (walked_along row level.one_each level.walked walk is.since (level.started is.place is.since way.ride is.starts)) in
      record {
        place = is.place;
        since = is.since;
        starts = is.starts;
        seconds = is.seconds;
        walked = is.walks;
        least = record {
          attained = (way.walk, is.walks);
          least = λ vs k walk. omega (arith, along vs k walk, is.in_time);
        };
        second_is = omega (arith, along way.walk is.seconds is.walks, is.in_time);
      }

  -- distances

  from_source : {s : NodeNo} {d : ℕ} {p : NodeNo} {r : ℕ} {ride : Option Ride} → Starts n s d [] p r ride → (p ≡ s) × (r ≡ d)
  from_source (at_source vertex) = (refl, refl)
  from_source (off_ride is_ride caught) = absurd (none_before caught.has_way)

  module _ (s : NodeNo) (row : Ways) (level : IsLevel n s 0 [] row) (v : NodeNo) where
    on_foot : (vs : List NodeNo) (k : ℕ) → IsWalk (streets n) s vs v k → HasWayBy row v k
    on_foot vs k walk =
        by_later (walked_along row level.one_each level.walked walk 0 (level.started s 0 None (at_source (IsWalk-begins (streets n) ok.streets_join walk)))) (omega arith)

    pub distance_some : (way : Way) → IsWayTo row v way → IsDistance (streets n) s v way.second
    distance_some way at =
        let e = exact s 0 [] row level v way at in
        let source = from_source e.starts in
        record {
          attained = (
            way.walk,
            subst (λ p. IsWalk (streets n) p way.walk v way.second) source.0
                (subst (λ m. IsWalk (streets n) e.place way.walk v m) (omega (arith, e.second_is, source.1)) e.walked),
          );
          least = λ vs k walk. way_by row v way k at (on_foot vs k walk);
        }

    pub distance_none : ((m : ℕ) → HasWayBy row v m → ⊥) → (vs : List NodeNo) (k : ℕ) → IsWalk (streets n) s vs v k → ⊥
    distance_none none vs k walk = none k (on_foot vs k walk)

    distance_entry : (o : Option Way) → get_or row v.0 None ≡ o → HasDistance (streets n) s v (second_of o)
    distance_entry None e = distance_none (λ m has. entry_none row v m e has)
    distance_entry (Some way) e = distance_some way (entry_way row v way e)

  pub distances_hold : (s : NodeNo) (row : Ways) (seconds : List (Option ℕ)) → seconds ≡ map second_of row → IsLevel n s 0 [] row → HoldsDistances n s seconds
  distances_hold s row seconds are level =
      record {
        one_each = ap (λ (xs : List (Option ℕ)). length xs) are ∙ length-map row second_of ∙ level.one_each;
        distances = λ v.
            subst (λ o. HasDistance (streets n) s v o)
            (sym (ap (λ (xs : List (Option ℕ)). get_or xs v.0 None) are ∙ get_or-map second_of row v.0 None))
            (distance_entry s row level v (get_or row v.0 None) refl);
      }

  -- journeys

  module _ (s : NodeNo) (d : ℕ) (rows : List Ways) (table : IsTable n s d rows) where
    abbrev row_of : ℕ → Ways
    row_of k = get_or rows k []

    pub later_level : (j more : ℕ) (v : NodeNo) (m : ℕ) → j + more < length rows → HasWayBy (row_of j) v m → HasWayBy (row_of (j + more)) v m
    later_level j zero v m within has = subst (λ k. HasWayBy (row_of k) v m) (omega arith) has
    later_level j (suc more) v m within has =
        let e : suc (j + more) ≡ j + suc more = omega arith in
        let before : HasWayBy (row_of (j + more)) v m = later_level j more v m (omega arith) has in
        subst (λ k. HasWayBy (row_of k) v m) e ((table.levels (suc (j + more)) (omega arith)).no_later v m before)

    -- no journey arrives before the way with as many rides
    by_level : {p t : NodeNo} {r arrive : ℕ} {ws : List (List NodeNo)} {rs : List Ride} → Travels n p r ws rs t arrive
        → (j : ℕ) → HasWayBy (row_of j) p r → j + length rs < length rows → HasWayBy (row_of (j + length rs)) t arrive
    by_level {t = t} {r = r} (walks {m = m} is) j has within =
        let level = table.levels j (omega arith) in
        subst (λ k. HasWayBy (row_of k) t (r + m)) (omega arith) (walked_along (row_of j) level.one_each level.walked is r has)
    by_level {t = t} {r = r} {arrive = arrive} (rides {m = m} {ride = ride} {rides = rest} {on = on} {off = off} is is_ride in_time further) j has within =
        let level = table.levels j (omega (arith, within)) in
        let ready = walked_along (row_of j) level.one_each level.walked is r has in
        let caught : IsCaught n (row_of j) on = record { ready = r + m; has_way = ready; in_time = in_time } in
        let next = table.levels (suc j) (omega (arith, within)) in
        let left = next.started (node_of n off.stop) off.arr (Some ride) (off_ride is_ride caught) in
        let e : suc j + length rest ≡ j + suc (length rest) = omega arith in
        subst (λ k. HasWayBy (row_of k) t arrive) e (by_level further (suc j) left (omega (arith, within)))

    Travels-begins : {p t : NodeNo} {r arrive : ℕ} {ws : List (List NodeNo)} {rs : List Ride} → Travels n p r ws rs t arrive → IsVertex (streets n) p
    Travels-begins (walks is) = IsWalk-begins (streets n) ok.streets_join is
    Travels-begins (rides is is_ride in_time further) = IsWalk-begins (streets n) ok.streets_join is

    pub arrival_by : (t : NodeNo) (k arrive : ℕ) → k < length rows → HasArrival n s d t k arrive → HasWayBy (row_of k) t arrive
    arrival_by t k arrive within has =
        let start : HasWayBy (row_of 0) s d = (table.levels 0 (omega arith)).started s d None (at_source (Travels-begins has.leads)) in
        let few : 0 + length has.journey.rides < length rows = omega (arith, has.few) in
        let there = by_level has.leads 0 (subst (λ r. HasWayBy (row_of 0) s r) (sym has.departs) start) few in
        let e : (0 + length has.journey.rides) + (k - length has.journey.rides) ≡ k = omega (arith, has.few) in
        subst (λ j. HasWayBy (row_of j) t arrive) e
        (later_level (0 + length has.journey.rides) (k - length has.journey.rides) t arrive (omega (arith, has.few)) there)

    -- from a way's start
    pub from_start : (before : Ways) (v : NodeNo) (way : Way) (ws : List (List NodeNo)) (rs : List Ride) (t : NodeNo) (arrive : ℕ)
        → (e : Exact s d before v way) → LeadsOn n v way.second ws rs t arrive → Travels n e.place e.since (way.walk ∷ ws) rs t arrive
    from_start before v way ws rs t arrive e leads = leads e.place e.since e.seconds way.walk e.walked e.second_is

    -- a journey of at most so many rides
    record Led (t : NodeNo) (arrive many : ℕ) : Type 0 where
      led_walks : List (List NodeNo)
      led_rides : List Ride
      leads : Travels n s d led_walks led_rides t arrive
      few : length led_rides ≤ many

    led_on_foot : {p : NodeNo} {r : ℕ} {ride : Option Ride} → Starts n s d [] p r ride
        → (ws : List (List NodeNo)) (rs : List Ride) (t : NodeNo) (arrive : ℕ) → Travels n p r ws rs t arrive → Led t arrive (length rs)
    led_on_foot (at_source vertex) ws rs t arrive travels = record { led_walks = ws; led_rides = rs; leads = travels; few = omega arith }
    led_on_foot (off_ride is_ride caught) ws rs t arrive travels = absurd (none_before caught.has_way)

    led_by_ride : (before : Ways) (k : ℕ)
        → ((v : NodeNo) (way : Way) → IsWayTo before v way → (ws : List (List NodeNo)) (rs : List Ride) (t : NodeNo) (arrive : ℕ)
        → LeadsOn n v way.second ws rs t arrive → Led t arrive (k + length rs))
        → {p : NodeNo} {r : ℕ} {ride : Option Ride} → Starts n s d before p r ride
        → (ws : List (List NodeNo)) (rs : List Ride) (t : NodeNo) (arrive : ℕ) → Travels n p r ws rs t arrive → Led t arrive (suc k + length rs)
    led_by_ride before k again (at_source vertex) ws rs t arrive travels =
        record { led_walks = ws; led_rides = rs; leads = travels; few = omega arith }
    led_by_ride before k again (off_ride {ride} {on} {off} is_ride caught) ws rs t arrive travels =
        let led =
        again (node_of n on.stop) caught.has_way.way caught.has_way.stands ws (ride ∷ rs) t arrive
        (from_ride n before ride on off ws rs t arrive caught.has_way.way is_ride caught caught.has_way.stands travels) in
        record { led_walks = led.led_walks; led_rides = led.led_rides; leads = led.leads; few = omega (arith, led.few) }

    led_from : (k : ℕ) → k < length rows → (v : NodeNo) (way : Way) → IsWayTo (row_of k) v way
        → (ws : List (List NodeNo)) (rs : List Ride) (t : NodeNo) (arrive : ℕ) → LeadsOn n v way.second ws rs t arrive → Led t arrive (k + length rs)
    led_from zero within v way at ws rs t arrive leads =
        let e = exact s d [] (row_of 0) (table.levels 0 within) v way at in
        let led = led_on_foot e.starts (way.walk ∷ ws) rs t arrive (from_start [] v way ws rs t arrive e leads) in
        record { led_walks = led.led_walks; led_rides = led.led_rides; leads = led.leads; few = omega (arith, led.few) }
    led_from (suc k) within v way at ws rs t arrive leads =
        let e = exact s d (row_of k) (row_of (suc k)) (table.levels (suc k) within) v way at in
        led_by_ride (row_of k) k (led_from k (omega arith)) e.starts (way.walk ∷ ws) rs t arrive (from_start (row_of k) v way ws rs t arrive e leads)

    -- a way is as early as some journey with as many rides
    pub arrival_of : (k : ℕ) → k < length rows → (v : NodeNo) (way : Way) → IsWayTo (row_of k) v way → HasArrival n s d v k way.second
    arrival_of k within v way at =
        let led = led_from k within v way at [] [] v way.second (leads_to n v way.second) in
        record {
          journey = record { depart = d; walks = led.led_walks; rides = led.led_rides };
          departs = refl;
          leads = led.leads;
          few = omega (arith, led.few);
        }

    earliest_entry : (k : ℕ) → k < length rows → (v : NodeNo) (o : Option Way) → get_or (row_of k) v.0 None ≡ o → HasEarliest n s d v k (second_of o)
    earliest_entry k within v None e = λ arrive has. entry_none (row_of k) v arrive e (arrival_by v k arrive within has)
    earliest_entry k within v (Some way) e =
        let at = entry_way (row_of k) v way e in
        record {
          attained = arrival_of k within v way at;
          least = λ other has. way_by (row_of k) v way other at (arrival_by v k other within has);
        }

    -- the seconds of the rows are the earliest arrivals
    pub earliest_hold : (limit : ℕ) (all : List (List (Option ℕ))) → length rows ≡ limit + 1 → all ≡ map (λ row. map second_of row) rows
        → HoldsEarliest n s d limit all
    earliest_hold limit all many are =
        record {
          one_each = ap (λ (xs : List (List (Option ℕ))). length xs) are ∙ length-map rows (λ row. map second_of row) ∙ many;
          arrivals = λ k v few.
              let row_is : get_or all k [] ≡ map second_of (row_of k) =
              ap (λ (xs : List (List (Option ℕ))). get_or xs k []) are ∙ get_or-map (λ (row : Ways). map second_of row) rows k [] in
              subst (λ o. HasEarliest n s d v k o)
              (sym (ap (λ (xs : List (Option ℕ)). get_or xs v.0 None) row_is ∙ get_or-map second_of (row_of k) v.0 None))
              (earliest_entry k (omega (arith, many, few)) v (get_or (row_of k) v.0 None) refl);
        }
