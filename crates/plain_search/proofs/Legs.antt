-- A journey put together from its end, level by level.
use Rattle.std.proofs.Common.{◌≡◌, ℕ, zero, suc, ◌+◌, ◌-◌, ◌<◌, ◌≤◌, List, [], ◌∷◌, length, get_or, refl, sym, ◌∙◌, ap, subst, arith, Option, Some, None}
use Rattle.std.specs.Prelude.{All}
use Rattle.std.proofs.lemmas.Option.{same_Some}
use Rattle.std.proofs.lemmas.List.Elements.{All-cons}
use Rattle.move_model.specs.declared.network.Network.{Network}
use Rattle.move_model.specs.declared.network.NodeNo.{NodeNo}
use Rattle.move_model.specs.declared.network.Call.{Call}
use Rattle.move_model.specs.declared.journey.Ride.{Ride}
use Rattle.move_model.specs.Network.{streets, IsNetwork, node_of}
use Rattle.move_model.specs.Journey.{HasCall, IsRide, Travels}
use Rattle.move_model.specs.Found.{IsLeastWalk}
use Rattle.plain_search.specs.declared.way.Way.{Way}
use Rattle.plain_search.specs.Row.{Ways, IsWayTo}
use Rattle.plain_search.specs.Ridden.{IsCaught}
use Rattle.plain_search.specs.Levels.{Starts, before_of, IsTable}
use Rattle.plain_search.specs.Levels.Starts.{at_source, off_ride}
use Rattle.plain_search.specs.Answer.{IsLed}
use Rattle.plain_search.proofs.Rows.{same_default}
use Rattle.plain_search.proofs.LevelLaws.{none_before}
use Rattle.plain_search.proofs.JourneyLaws.{exact, same_way, LeadsOn, leads_to, from_ride}

-- what is put together so far leads on from the best way of the level below `above` to the vertex
pub record Pending (n : Network) (rows : List Ways) (t : NodeNo) (arrive above : ℕ) (node : NodeNo) (walks : List (List NodeNo)) (rides : List Ride) : Type 0 where
  pub level : ℕ
  pub above_is : above ≡ suc level
  pub within : level < length rows
  pub way : Way
  pub at : IsWayTo (get_or rows level []) node way
  pub leads : LeadsOn n node way.second walks rides t arrive
  pub least : All (IsLeastWalk (streets n)) walks

-- the same with a walk more, from where that walk starts
record Walked (n : Network) (s : NodeNo) (d : ℕ) (before : Ways) (ride : Option Ride) (t : NodeNo) (arrive : ℕ) (walks : List (List NodeNo)) (rides : List Ride) : Type 0 where
  place : NodeNo
  since : ℕ
  starts : Starts n s d before place since ride
  travels : Travels n place since walks rides t arrive
  least : All (IsLeastWalk (streets n)) walks

-- a whole journey
record Whole (n : Network) (s : NodeNo) (d : ℕ) (t : NodeNo) (arrive : ℕ) (walks : List (List NodeNo)) (rides : List Ride) : Type 0 where
  travels : Travels n s d walks rides t arrive
  least : All (IsLeastWalk (streets n)) walks

start_of : {n : Network} {s : NodeNo} {d : ℕ} {before : Ways} {p : NodeNo} {r : ℕ} {ride : Option Ride} → Starts n s d before p r ride → ride ≡ None
    → {t : NodeNo} {arrive : ℕ} {walks : List (List NodeNo)} {rides : List Ride} → Travels n p r walks rides t arrive → Travels n s d walks rides t arrive
start_of (at_source vertex) none travels = travels
start_of (off_ride is_ride caught) none travels = absurd (cc)

-- the calls of the ride at which a walk starts
record Left (n : Network) (before : Ways) (ride : Ride) (t : NodeNo) (arrive : ℕ) (walks : List (List NodeNo)) (rides : List Ride) : Type 0 where
  on : Call
  off : Call
  is_ride : IsRide n ride on off
  caught : IsCaught n before on
  travels : Travels n (node_of n off.stop) off.arr walks rides t arrive

left_of : {n : Network} {s : NodeNo} {d : ℕ} {before : Ways} {p : NodeNo} {r : ℕ} {held : Option Ride} → Starts n s d before p r held
    → (ride : Ride) → held ≡ Some ride
    → {t : NodeNo} {arrive : ℕ} {walks : List (List NodeNo)} {rides : List Ride} → Travels n p r walks rides t arrive → Left n before ride t arrive walks rides
left_of (at_source vertex) ride some travels = absurd (cc)
left_of {n} {before = before} (off_ride {ride = taken} {on} {off} is_ride caught) ride some travels =
    let same : taken ≡ ride = same_Some taken ride some in
    record { on = on; off = off; is_ride = subst (λ x. IsRide n x on off) same is_ride; caught = caught; travels = travels }

module _ (n : Network) (ok : IsNetwork n) (s : NodeNo) (d : ℕ) (rows : List Ways) (table : IsTable n s d rows) (t : NodeNo) (arrive : ℕ) where
  pub pending_first : (k : ℕ) → k < length rows → (way : Way) → IsWayTo (get_or rows k []) t way → way.second ≡ arrive
      → Pending n rows t arrive (k + 1) t [] []
  pending_first k within way at e =
      record {
        level = k;
        above_is = omega arith;
        within = within;
        way = way;
        at = at;
        leads = subst (λ m. LeadsOn n t m [] [] t arrive) (sym e) (leads_to n t arrive);
        least = λ i walk inside. absurd (omega (arith, inside));
      }

  -- the way that was found is the pending one
  walked : (j : ℕ) (node : NodeNo) (walks : List (List NodeNo)) (rides : List Ride) (way : Way) → Pending n rows t arrive (j + 1) node walks rides
      → IsWayTo (get_or rows j []) node way → Walked n s d (before_of rows j) way.ride t arrive (way.walk ∷ walks) rides
  walked j node walks rides way pending at =
      let same_level : pending.level ≡ j = omega (arith, pending.above_is) in
      let within : j < length rows = omega (arith, pending.within, same_level) in
      let level = table.levels j within in
      let e = exact n ok s d (before_of rows j) (get_or rows j []) level node way at in
      let held : IsWayTo (get_or rows j []) node pending.way = subst (λ i. IsWayTo (get_or rows i []) node pending.way) same_level pending.at in
      let same : pending.way ≡ way = same_way (get_or rows j []) node pending.way way held at in
      let leads : LeadsOn n node way.second walks rides t arrive = subst (λ (w : Way). LeadsOn n node w.second walks rides t arrive) same pending.leads in
      record {
        place = e.place;
        since = e.since;
        starts = e.starts;
        travels = leads e.place e.since e.seconds way.walk e.walked e.second_is;
        least =
            All-cons (IsLeastWalk (streets n)) way.walk walks
            (record { from = e.place; to = node; seconds = e.seconds; walks = e.walked; least = e.least; no_vertex_twice = (level.whole.ways node way at).no_vertex_twice })
            pending.least;
      }

  whole : (j : ℕ) (node : NodeNo) (walks : List (List NodeNo)) (rides : List Ride) (way : Way) → Pending n rows t arrive (j + 1) node walks rides
      → IsWayTo (get_or rows j []) node way → way.ride ≡ None → Whole n s d t arrive (way.walk ∷ walks) rides
  whole j node walks rides way pending at none =
      let w = walked j node walks rides way pending at in
      record { travels = start_of w.starts none w.travels; least = w.least }

  -- the journey that starts at the source
  pub led_now : (j : ℕ) (node : NodeNo) (walks all : List (List NodeNo)) (rides : List Ride) (way : Way) (k : ℕ) → Pending n rows t arrive (j + 1) node walks rides
      → IsWayTo (get_or rows j []) node way → way.ride ≡ None → all ≡ way.walk ∷ walks → length rides ≤ k
      → IsLed n s d t k arrive (record { depart = d; walks = all; rides = rides })
  led_now j node walks all rides way k pending at none all_are few =
      let done = whole j node walks rides way pending at none in
      record {
        departs = refl;
        arrives = subst (λ ws. Travels n s d ws rides t arrive) (sym all_are) done.travels;
        few = few;
        least_walks = subst (λ ws. All (IsLeastWalk (streets n)) ws) (sym all_are) done.least;
      }

  -- on to where the ride was boarded, one level below
  pub pending_ride : (j : ℕ) (node next : NodeNo) (walks all : List (List NodeNo)) (rides more : List Ride) (way : Way) (ride : Ride) → Pending n rows t arrive (j + 1) node walks rides
      → IsWayTo (get_or rows j []) node way → way.ride ≡ Some ride → all ≡ way.walk ∷ walks → more ≡ ride ∷ rides
      → ((call : Call) → HasCall n ride.trip ride.board call → next ≡ node_of n call.stop)
      → Pending n rows t arrive j next all more
  pending_ride j node next walks all rides more way ride pending at some all_are more_are next_is =
      let w = walked j node walks rides way pending at in
      let left = left_of w.starts ride some w.travels in
      below j (omega (arith, pending.above_is, pending.within)) left w.least
    where
      below : (j : ℕ) → j < length rows → Left n (before_of rows j) ride t arrive (way.walk ∷ walks) rides → All (IsLeastWalk (streets n)) (way.walk ∷ walks)
          → Pending n rows t arrive j next all more
      below zero within left least = absurd (none_before left.caught.has_way)
      below (suc i) within left least =
          let boarded = left.caught.has_way in
          let here : next ≡ node_of n left.on.stop = next_is left.on left.is_ride.boards in
          record {
            level = i;
            above_is = refl;
            within = omega arith;
            way = boarded.way;
            at = subst (λ v. IsWayTo (get_or rows i []) v boarded.way) (sym here) boarded.stands;
            leads =
                subst (λ v. LeadsOn n v boarded.way.second all more t arrive) (sym here)
                (subst (λ ws. LeadsOn n (node_of n left.on.stop) boarded.way.second ws more t arrive) (sym all_are)
                (subst (λ rs. LeadsOn n (node_of n left.on.stop) boarded.way.second (way.walk ∷ walks) rs t arrive) (sym more_are)
                (from_ride n (get_or rows i []) ride left.on left.off (way.walk ∷ walks) rides t arrive boarded.way left.is_ride left.caught boarded.stands left.travels)));
            least = subst (λ ws. All (IsLeastWalk (streets n)) ws) (sym all_are) least;
          }

  -- a level has the pending way
  pub not_pending : (j : ℕ) (node : NodeNo) (walks : List (List NodeNo)) (rides : List Ride) → Pending n rows t arrive (j + 1) node walks rides
      → ((way : Way) → IsWayTo (get_or rows j []) node way → ⊥) → ⊥
  not_pending j node walks rides pending none =
      let same_level : pending.level ≡ j = omega (arith, pending.above_is) in
      none pending.way (subst (λ i. IsWayTo (get_or rows i []) node pending.way) same_level pending.at)

  -- the same over what the calls were lent

  pub pending_start : (k : ℕ) (walks : List (List NodeNo)) (rides : List Ride) → k < length rows → (way : Way) → IsWayTo (get_or rows k []) t way
      → way.second ≡ arrive → walks ≡ [] → rides ≡ [] → Pending n rows t arrive (k + 1) t walks rides
  pending_start k walks rides within way at e walks_are rides_are =
      subst (λ ws. Pending n rows t arrive (k + 1) t ws rides) (sym walks_are)
      (subst (λ rs. Pending n rows t arrive (k + 1) t [] rs) (sym rides_are) (pending_first k within way at e))

  pub pending_more : (level : ℕ) (node next : NodeNo) (walks all : List (List NodeNo)) (rides more : List Ride) (way : Way) (ride : Ride) → 0 < level
      → Pending n rows t arrive level node walks rides
      → IsWayTo (get_or rows (level - 1) []) node way → way.ride ≡ Some ride → all ≡ way.walk ∷ walks → more ≡ ride ∷ rides
      → ((call : Call) → HasCall n ride.trip ride.board call → next ≡ node_of n call.stop)
      → Pending n rows t arrive (level - 1) next all more
  pending_more level node next walks all rides more way ride some pending =
      let e : level ≡ (level - 1) + 1 = omega (arith, some) in
      pending_ride (level - 1) node next walks all rides more way ride (subst (λ j. Pending n rows t arrive j node walks rides) e pending)

  pub led_lent : (level : ℕ) (node : NodeNo) (walks all : List (List NodeNo)) (rides : List Ride) (way : Way) (k : ℕ) → 0 < level
      → Pending n rows t arrive level node walks rides
      → IsWayTo (get_or rows (level - 1) []) node way → way.ride ≡ None → all ≡ way.walk ∷ walks → length rides ≤ k
      → IsLed n s d t k arrive (record { depart = d; walks = all; rides = rides })
  led_lent level node walks all rides way k some pending =
      let e : level ≡ (level - 1) + 1 = omega (arith, some) in
      led_now (level - 1) node walks all rides way k (subst (λ j. Pending n rows t arrive j node walks rides) e pending)

  pub none_pending : (level : ℕ) (node : NodeNo) (walks : List (List NodeNo)) (rides : List Ride) → 0 < level → Pending n rows t arrive level node walks rides
      → ((way : Way) → IsWayTo (get_or rows (level - 1) []) node way → ⊥) → ⊥
  none_pending level node walks rides some pending =
      let e : level ≡ (level - 1) + 1 = omega (arith, some) in
      not_pending (level - 1) node walks rides (subst (λ j. Pending n rows t arrive j node walks rides) e pending)

-- a row of the list, as it was lent

pub way_lent : (rows : List Ways) (j : ℕ) (row lent : Ways) (node : NodeNo) (way : Way) → j < length rows → row ≡ get_or rows j row → lent ≡ row
    → IsWayTo lent node way → IsWayTo (get_or rows j []) node way
way_lent rows j row lent node way within row_is lent_is at = subst (λ r. IsWayTo r node way) (lent_is ∙ row_is ∙ same_default rows j row [] within) at

pub none_lent : (rows : List Ways) (j : ℕ) (row lent : Ways) (node : NodeNo) → j < length rows → row ≡ get_or rows j row → lent ≡ row
    → ((way : Way) → IsWayTo lent node way → ⊥) → (way : Way) → IsWayTo (get_or rows j []) node way → ⊥
none_lent rows j row lent node within row_is lent_is none way at = none way (subst (λ r. IsWayTo r node way) (sym (lent_is ∙ row_is ∙ same_default rows j row [] within)) at)

pub no_ride : (ride : Option Ride) → ((x : Ride) → ride ≡ Some x → ⊥) → ride ≡ None
no_ride None none = refl
no_ride (Some x) none = absurd (none x refl)

pub pending_end : {n : Network} {rows : List Ways} {t : NodeNo} {arrive level : ℕ} {node : NodeNo} {walks : List (List NodeNo)} {rides : List Ride}
    → Pending n rows t arrive level node walks rides → level ≤ 0 → ⊥
pending_end pending none = omega (arith, pending.above_is, none)

-- the walk that was put first, by way of its copy
pub walk_put : (new old : List (List NodeNo)) (copy lent walk : List NodeNo) → new ≡ copy ∷ old → copy ≡ lent → lent ≡ walk → new ≡ walk ∷ old
walk_put new old copy lent walk new_is copy_is lent_is = new_is ∙ ap (λ w. w ∷ old) (copy_is ∙ lent_is)
