-- The rows of a search are levels.
use Rattle.std.proofs.Common.{◌≡◌, ℕ, zero, suc, ◌+◌, ◌<◌, ◌≤◌, List, [], ◌∷◌, ◌++◌, length, get_or, take, drop, refl, sym, ◌∙◌, ap, subst, inl, inr, arith, Option, Some, None}
use Rattle.std.proofs.Math.ListN.{set, length-set, replicate}
use Rattle.std.proofs.Math.Seq.{take-append_seam}
use Rattle.std.specs.Prelude.{slice_get, All, Contains}
use Rattle.std.proofs.lemmas.Bool.{cases_lt}
use Rattle.std.proofs.lemmas.List.{length_push, get_or_append_left, get_or-append-add}
use Rattle.std.proofs.lemmas.Option.{slice_get_within, slice_get-get_or, get_or_from_slice_get}
use Rattle.move_model.specs.declared.network.Network.{Network}
use Rattle.move_model.specs.declared.network.NodeNo.{NodeNo}
use Rattle.move_model.specs.declared.network.StopNo.{StopNo}
use Rattle.move_model.specs.declared.network.TripNo.{TripNo}
use Rattle.move_model.specs.declared.network.Arc.{Arc}
use Rattle.move_model.specs.declared.network.Stop.{Stop}
use Rattle.move_model.specs.declared.network.Trip.{Trip}
use Rattle.move_model.specs.declared.network.Call.{Call}
use Rattle.move_model.specs.declared.journey.Ride.{Ride}
use Rattle.move_model.specs.Streets.{IsVertex}
use Rattle.move_model.specs.Streets.IsWalk.{stays}
use Rattle.move_model.specs.Network.{streets, IsNetwork, IsNumbered, IsTrip, node_of_stop, node_of}
use Rattle.move_model.specs.Journey.{HasCall, IsRide}
use Rattle.plain_search.specs.declared.way.Way.{Way}
use Rattle.plain_search.specs.Row.{Ways, IsWayTo, HasWayBy, IsWhole, IsWalked, GoesOn, WalksOn}
use Rattle.plain_search.specs.Row.GoesOn.{stays as stays_on, goes as goes_on}
use Rattle.plain_search.specs.Ridden.{IsLeft, RidesOn, IsRidden}
use Rattle.plain_search.specs.Levels.{Starts, IsWayOf, IsLevel, IsSourceRow, before_of, IsTable}
use Rattle.plain_search.specs.Levels.Starts.{at_source, off_ride}
use Rattle.plain_search.proofs.Rows.{same_default, length-none, no_way, way_there, ways-set, whole-set, whole-alone, whole-none}
use Rattle.plain_search.proofs.StreetLaws.{least_arc, IsWalk-push}

pub none_before : {v : NodeNo} {m : ℕ} → HasWayBy [] v m → ⊥
none_before has = no_entry has.way has.stands
  where
    no_entry : (way : Way) → None ≡ Some (Some way) → ⊥
    no_entry way e = cc

-- the row of the source

pub source_none : (n : Network) (s : NodeNo) (d : ℕ) (row : Ways) → row ≡ replicate (n.nodes + 1) None → (IsVertex (streets n) s → ⊥)
    → IsSourceRow n s d row
source_none n s d row row_is never =
    record {
      one_each = ap (λ (r : Ways). length r) row_is ∙ length-none (n.nodes + 1);
      there = λ vertex. absurd (never vertex);
      only = λ v way is. absurd (no_way (n.nodes + 1) v way (subst (λ r. IsWayTo r v way) row_is is));
    }

module _ (n : Network) (s : NodeNo) (d second : ℕ) (none : Ways) (walk : List NodeNo) (none_is : none ≡ replicate (n.nodes + 1) None)
    (vertex : IsVertex (streets n) s) (second_is : second ≡ d) (walk_is : walk ≡ s ∷ []) where
  abbrev way : Way
  way = record { second = second; walk = walk; ride = None }

  never : HasWayBy none s second → ⊥
  never has = no_way (n.nodes + 1) s has.way (subst (λ r. IsWayTo r s has.way) none_is has.stands)

  within : s.0 < length none
  within = omega (arith, vertex.to_nodes, ap (λ (r : Ways). length r) none_is, length-none (n.nodes + 1))

  pub source_one : IsSourceRow n s d (set none s.0 (Some way))
  source_one =
      record {
        one_each = length-set none s.0 (Some way) ∙ ap (λ (r : Ways). length r) none_is ∙ length-none (n.nodes + 1);
        there = λ _. record { way = way; stands = way_there none s way within never; no_later = omega (arith, second_is) };
        only = λ v w is. elim (ways-set none s way within never v w is) [
          | inl same ↦ (same.0, vertex, same.1 ∙ λ i. record { second = second_is i; walk = walk_is i; ride = None })
          | inr old ↦ absurd (no_way (n.nodes + 1) v w (subst (λ r. IsWayTo r v w) none_is old))
        ];
      }

  pub source_whole : n.nodes + 1 ≤ 4294967296 → d ≤ 4294967295 → IsWhole (set none s.0 (Some way))
  source_whole few small =
      whole-set none s way within never (subst (λ r. IsWhole r) (sym none_is) (whole-none (n.nodes + 1) few))
      (whole-alone none s way within never walk_is (omega (arith, second_is)))

-- a list that was lent whole and is put back

pub put_back : {X : Type 0} (len : ℕ) (lent old : List X) → length lent ≡ len → take len (lent ++ drop (length lent) old) ≡ lent
put_back len lent old same = ap (λ k. take k (lent ++ drop (length lent) old)) (sym same) ∙ take-append_seam lent (drop (length lent) old)

-- at stops

pub All-slice_get : {X : Type 0} (P : X → Type 0) (xs : List X) (k : ℕ) (x : X) → All P xs → slice_get xs k ≡ Some x → P x
All-slice_get P xs k x all is = subst P (get_or_from_slice_get xs k x x is) (all k x (slice_get_within xs k x is))

pub stop_vertex : (n : Network) → IsNetwork n → (stop : StopNo) → stop.0 < length n.stops → IsVertex (streets n) (node_of n stop)
stop_vertex n ok stop within =
    let none : Stop = record { node = record { 0 = 0 }; name = [] } in
    subst (λ o. IsVertex (streets n) (node_of_stop o)) (sym (slice_get-get_or n.stops stop.0 none within)) (ok.stops_stand stop.0 none within)

pub call_vertex : (n : Network) → IsNetwork n → (trip : TripNo) (k : ℕ) (call : Call) → HasCall n trip k call → IsVertex (streets n) (node_of n call.stop)
call_vertex n ok trip k call has =
    let is_trip : IsTrip n has.0 = All-slice_get (IsTrip n) n.trips trip.0 has.0 ok.trips_go has.1 in
    stop_vertex n ok call.stop (All-slice_get (λ (call : Call). call.stop.0 < length n.stops) has.0.calls k call is_trip.at_stops has.2)

pub ride_numbers : (n : Network) → IsNumbered n → (ride : Ride) (on off : Call) → IsRide n ride on off
    → (ride.trip.0 < 4294967296) × (ride.alight < 4294967296)
ride_numbers n numbered ride on off is =
    let at = is.leaves in
    let trip_within : ride.trip.0 < length n.trips = slice_get_within n.trips ride.trip.0 at.0 at.1 in
    let call_within : ride.alight < length at.0.calls = slice_get_within at.0.calls ride.alight off at.2 in
    let few = All-slice_get (λ (trip : Trip). length trip.calls ≤ 4294967296) n.trips ride.trip.0 at.0 numbered.calls at.1 in
    (omega (arith, trip_within, numbered.trips), omega (arith, call_within, few))

-- ways

module _ (n : Network) (ok : IsNetwork n) (s : NodeNo) (d : ℕ) (before : Ways) where
  way_on : (p q : NodeNo) (way : Way) (m : ℕ) → IsWayOf n s d before p way → Contains n.arcs (record { from = p; to = q; seconds = m })
      → IsWayOf n s d before q (record { second = way.second + m; walk = way.walk ++ q ∷ []; ride = way.ride })
  way_on p q way m is arc =
      let least = least_arc n.arcs p q m arc in
      record {
        place = is.place;
        since = is.since;
        starts = is.starts;
        seconds = is.seconds + least.0;
        walks = IsWalk-push (streets n) ok.streets_join is.walks least.1.0;
        in_time = omega (arith, is.in_time, least.1.1);
      }

  ways_on : (row : Ways) → ((v : NodeNo) (way : Way) → IsWayTo row v way → IsWayOf n s d before v way)
      → {v : NodeNo} {way : Way} → GoesOn n.arcs row v way → IsWayOf n s d before v way
  ways_on row ways (stays_on at) = ways _ _ at
  ways_on row ways (goes_on on arc) = way_on _ _ _ _ (ways_on row ways on) arc

-- on foot
pub first_level : (n : Network) (s : NodeNo) (d : ℕ) (source row : Ways) → IsNetwork n → IsSourceRow n s d source
    → IsWhole row → WalksOn n.arcs source row → IsWalked n.arcs row → IsLevel n s d [] row
first_level n s d source row ok is_source whole walks walked =
    record {
      one_each = walks.one_each ∙ is_source.one_each;
      whole = whole;
      no_later = λ v m has. absurd (none_before has);
      walked = walked;
      started = λ v r ride starts. started starts;
      ways = λ v way is. ways_on n ok s d [] source source_ways (walks.go_on v way is);
    }
  where
    started : {v : NodeNo} {r : ℕ} {ride : Option Ride} → Starts n s d [] v r ride → HasWayBy row v r
    started (at_source vertex) = walks.no_later s d (is_source.there vertex)
    started (off_ride is_ride caught) = absurd (none_before caught.has_way)

    source_ways : (v : NodeNo) (way : Way) → IsWayTo source v way → IsWayOf n s d [] v way
    source_ways v way is =
        let only = is_source.only v way is in
        subst (λ x. IsWayOf n s d [] x way) (sym only.0)
        (subst (λ x. IsWayOf n s d [] s x) (sym only.2)
        (record { place = s; since = d; starts = at_source only.1; seconds = 0; walks = stays only.1; in_time = omega arith }))

-- with one ride more
pub next_level : (n : Network) (s : NodeNo) (d : ℕ) (earlier before left row : Ways) → IsNetwork n → IsNumbered n → IsLevel n s d earlier before
    → RidesOn n before before left
    → ((ride : Ride) → ride.trip.0 < 4294967296 → ride.alight < 4294967296 → IsRidden n before left ride)
    → IsWhole row → WalksOn n.arcs left row → IsWalked n.arcs row → IsLevel n s d before row
next_level n s d earlier before left row ok numbered level rides ridden whole walks walked =
    record {
      one_each = walks.one_each ∙ rides.one_each ∙ level.one_each;
      whole = whole;
      no_later = λ v m has. walks.no_later v m (rides.no_later v m has);
      walked = walked;
      started = λ v r ride starts. started starts;
      ways = λ v way is. ways_on n ok s d before left left_ways (walks.go_on v way is);
    }
  where
    started : {v : NodeNo} {r : ℕ} {ride : Option Ride} → Starts n s d before v r ride → HasWayBy row v r
    started (at_source vertex) = walks.no_later s d (rides.no_later s d (level.started s d None (at_source vertex)))
    started (off_ride {ride} {on} {off} is_ride caught) =
        let small = ride_numbers n numbered ride on off is_ride in
        let vertex = call_vertex n ok ride.trip ride.alight off is_ride.leaves in
        walks.no_later (node_of n off.stop) off.arr
        (ridden ride small.0 small.1 on off is_ride caught (omega (arith, vertex.to_nodes, rides.one_each, level.one_each)))

    start_later : {v : NodeNo} {r : ℕ} {ride : Option Ride} → Starts n s d earlier v r ride → Starts n s d before v r ride
    start_later (at_source vertex) = at_source vertex
    start_later (off_ride is_ride caught) =
        off_ride is_ride (record { ready = caught.ready; has_way = level.no_later _ caught.ready caught.has_way; in_time = caught.in_time })

    way_later : (v : NodeNo) (way : Way) → IsWayOf n s d earlier v way → IsWayOf n s d before v way
    way_later v way is =
        record { place = is.place; since = is.since; starts = start_later is.starts; seconds = is.seconds; walks = is.walks; in_time = is.in_time }

    way_left : (v : NodeNo) (way : Way) → IsLeft n before v way → IsWayOf n s d before v way
    way_left v way is =
        let vertex = call_vertex n ok is.ride.trip is.ride.alight is.off is.is_ride.leaves in
        subst (λ x. IsWayOf n s d before v x) (sym is.way_is)
        (subst (λ x. IsWayOf n s d before x (record { second = is.off.arr; walk = x ∷ []; ride = Some is.ride })) (sym is.at)
        (record {
          place = node_of n is.off.stop;
          since = is.off.arr;
          starts = off_ride is.is_ride is.caught;
          seconds = 0;
          walks = stays vertex;
          in_time = omega arith;
        }))

    left_ways : (v : NodeNo) (way : Way) → IsWayTo left v way → IsWayOf n s d before v way
    left_ways v way is = elim (rides.left v way is) [
      | inl old ↦ way_later v way (level.ways v way old)
      | inr here ↦ way_left v way here
    ]

-- the same over what the calls were lent
pub first_lent : (n : Network) (s : NodeNo) (d : ℕ) (source start row result : Ways) (arcs : List Arc)
    → start ≡ source → arcs ≡ n.arcs → result ≡ row → IsSourceRow n s d source
    → IsWhole row → WalksOn arcs start row → IsWalked arcs row → IsNetwork n → IsLevel n s d [] result
first_lent n s d source start row result arcs start_is arcs_are result_is is_source whole walks walked ok =
    subst (λ r. IsLevel n s d [] r) (sym result_is)
    (first_level n s d source row ok is_source whole
    (subst (λ r. WalksOn n.arcs r row) start_is (subst (λ xs. WalksOn xs start row) arcs_are walks))
    (subst (λ xs. IsWalked xs row) arcs_are walked))

pub next_lent : (n : Network) (before lent start left mid row result : Ways) (arcs : List Arc)
    → lent ≡ before → start ≡ before → mid ≡ left → arcs ≡ n.arcs → result ≡ row
    → RidesOn n lent start left
    → ((ride : Ride) → ride.trip.0 < 4294967296 → ride.alight < 4294967296 → IsRidden n lent left ride)
    → IsWhole row → WalksOn arcs mid row → IsWalked arcs row
    → IsNetwork n → IsNumbered n → (s : NodeNo) (d : ℕ) (earlier : Ways) → IsLevel n s d earlier before → IsLevel n s d before result
next_lent n before lent start left mid row result arcs lent_is start_is mid_is arcs_are result_is rides ridden whole walks walked ok numbered s d earlier level =
    subst (λ r. IsLevel n s d before r) (sym result_is)
    (next_level n s d earlier before left row ok numbered level
    (subst (λ r. RidesOn n before r left) start_is (subst (λ r. RidesOn n r start left) lent_is rides))
    (subst (λ r. (ride : Ride) → ride.trip.0 < 4294967296 → ride.alight < 4294967296 → IsRidden n r left ride) lent_is ridden)
    whole
    (subst (λ r. WalksOn n.arcs r row) mid_is (subst (λ xs. WalksOn xs mid row) arcs_are walks))
    (subst (λ xs. IsWalked xs row) arcs_are walked))

-- the table of levels

pub table_first : (n : Network) (s : NodeNo) (d : ℕ) (row : Ways) → IsLevel n s d [] row → IsTable n s d (row ∷ [])
table_first n s d row level = record { levels = levels }
  where
    levels : (k : ℕ) → k < length (row ∷ []) → IsLevel n s d (before_of (row ∷ []) k) (get_or (row ∷ []) k [])
    levels zero within = level
    levels (suc k) within = absurd (omega (arith, within))

get_or_pushed : (rows : List Ways) (row : Ways) (k : ℕ) → k ≡ length rows → get_or (rows ++ row ∷ []) k [] ≡ row
get_or_pushed rows row k is =
    let e : length rows + 0 ≡ k = omega (arith, is) in
    subst (λ j. get_or (rows ++ row ∷ []) j [] ≡ row) e (get_or-append-add rows (row ∷ []) 0 [])

pub table_push : (n : Network) (s : NodeNo) (d : ℕ) (rows : List Ways) (last : ℕ) (row : Ways) → length rows ≡ last + 1 → IsTable n s d rows
    → IsLevel n s d (get_or rows last []) row → IsTable n s d (rows ++ row ∷ [])
table_push n s d rows last row many table level = record { levels = levels }
  where
    same : (k : ℕ) → k < length rows → get_or (rows ++ row ∷ []) k [] ≡ get_or rows k []
    same k within = get_or_append_left rows (row ∷ []) [] k within

    same_before : (k : ℕ) → k ≤ length rows → before_of (rows ++ row ∷ []) k ≡ before_of rows k
    same_before zero within = refl
    same_before (suc k) within = same k (omega arith)

    levels : (k : ℕ) → k < length (rows ++ row ∷ []) → IsLevel n s d (before_of (rows ++ row ∷ []) k) (get_or (rows ++ row ∷ []) k [])
    levels k within = elim (cases_lt k (length rows)) [
      | inl l ↦
          subst (λ r. IsLevel n s d (before_of (rows ++ row ∷ []) k) r) (sym (same k l))
          (subst (λ r. IsLevel n s d r (get_or rows k [])) (sym (same_before k (omega arith))) (table.levels k l))
      | inr h ↦
          let e : k ≡ suc last = omega (arith, within, length_push rows row, many) in
          subst (λ j. IsLevel n s d (before_of (rows ++ row ∷ []) j) (get_or (rows ++ row ∷ []) j [])) (sym e)
          (subst (λ r. IsLevel n s d r (get_or (rows ++ row ∷ []) (suc last) [])) (sym (same last (omega (arith, many))))
          (subst (λ r. IsLevel n s d (get_or rows last []) r) (sym (get_or_pushed rows row (suc last) (omega (arith, many)))) level))
    ]

-- the same over the row that the call was lent
pub table_more : (n : Network) (s : NodeNo) (d : ℕ) (rows : List Ways) (k : ℕ) (lent row : Ways) → length rows ≡ k + 1
    → lent ≡ get_or rows k lent
    → ((from : NodeNo) (depart : ℕ) (earlier : Ways) → IsLevel n from depart earlier lent → IsLevel n from depart lent row)
    → IsTable n s d rows → IsTable n s d (rows ++ row ∷ [])
table_more n s d rows k lent row many lent_is next table =
    let within : k < length rows = omega (arith, many) in
    let same : lent ≡ get_or rows k [] = lent_is ∙ same_default rows k lent [] within in
    table_push n s d rows k row many table
    (subst (λ r. IsLevel n s d r row) same
    (next s d (before_of rows k) (subst (λ r. IsLevel n s d (before_of rows k) r) (sym same) (table.levels k within))))
