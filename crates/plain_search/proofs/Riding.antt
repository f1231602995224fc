-- Riding on from the ways of a row.
use Rattle.std.proofs.Common.{◌≡◌, ℕ, ◌+◌, ◌<◌, ◌≤◌, ◌⊎◌, Bool, true, false, leb, List, [], ◌∷◌, length, get_or, min, refl, sym, ◌∙◌, ap, subst, inl, inr, arith, Option, Some, None}
use Rattle.std.proofs.Math.ListN.{set, length-set}
use Rattle.std.specs.Prelude.{slice_get, IsTrue, MatchBool}
use Rattle.std.proofs.lemmas.Bool.{cases_lt, leb-true, leb-false}
use Rattle.std.proofs.lemmas.Option.{same_Some, slice_get-get_or, slice_get_within}
use Rattle.move_model.specs.declared.network.Network.{Network}
use Rattle.move_model.specs.declared.network.NodeNo.{NodeNo}
use Rattle.move_model.specs.declared.network.TripNo.{TripNo}
use Rattle.move_model.specs.declared.network.Trip.{Trip}
use Rattle.move_model.specs.declared.network.Call.{Call}
use Rattle.move_model.specs.declared.journey.Ride.{Ride}
use Rattle.move_model.specs.Network.{node_of}
use Rattle.move_model.specs.Journey.{HasCall, IsRide}
use Rattle.plain_search.specs.declared.way.Way.{Way}
use Rattle.plain_search.specs.Row.{Ways, IsWayTo, HasWayBy, NoLater, IsWhole}
use Rattle.plain_search.specs.Ridden.{Leaves, IsCaught, RidesOn, IsBoarded, IsRidden}
use Rattle.plain_search.proofs.Rows.{way_there, no_later-set, ways-set, whole-set, whole-alone}
use Rattle.plain_search.proofs.Walked.{NoLater-same}

-- whether a call is caught, by the row's way to its vertex

pub catches_is : (n : Network) (before : Ways) (call : Call) (way : Way) (sum dep : ℕ) → IsWayTo before (node_of n call.stop) way
    → sum ≡ min (way.second + n.buffer) 18446744073709551615 → dep ≡ call.dep → dep ≤ 4294967295
    → MatchBool (leb sum dep) (IsCaught n before call) (IsCaught n before call → ⊥)
catches_is n before call way sum dep at sum_is dep_is small = go (leb sum dep) (leb_cases (leb sum dep) refl)
  where
    leb_cases : (b : Bool) → leb sum dep ≡ b → MatchBool b (sum ≤ dep) (dep < sum)
    leb_cases true e = leb-true sum dep e
    leb_cases false e = leb-false sum dep e

    go : (b : Bool) → MatchBool b (sum ≤ dep) (dep < sum) → MatchBool b (IsCaught n before call) (IsCaught n before call → ⊥)
    go true h = record { ready = way.second; has_way = record { way = way; stands = at; no_later = omega arith }; in_time = omega arith }
    go false h = λ caught.
        let same : caught.has_way.way ≡ way = same_Some _ _ (same_Some _ _ (sym caught.has_way.stands ∙ at)) in
        absurd (omega (arith, caught.in_time, caught.has_way.no_later, ap (λ (w : Way). w.second) same))

-- to have just left a ride

module _ (row : Ways) (node : NodeNo) (second : ℕ) (walk : List NodeNo) (ride : Ride)
    (whole : IsWhole row) (small : second ≤ 4294967295) (walk_is : walk ≡ node ∷ [])
    (within : node.0 < length row) (none : HasWayBy row node second → ⊥) where
  abbrev better : Way
  better = record { second = second; walk = walk; ride = Some ride }

  abbrev improved : Ways
  improved = set row node.0 (Some better)

  pub leave_whole : IsWhole improved
  leave_whole = whole-set row node better within none whole (whole-alone row node better within none walk_is small)

  pub leave_leaves : Leaves row improved node second ride
  leave_leaves =
      record {
        one_each = length-set row node.0 (Some better);
        no_later = no_later-set row node better within none;
        held = λ inside. record { way = better; stands = way_there row node better within none; no_later = omega arith };
        left = λ v w is. elim (ways-set row node better within none v w is) [
          | inl same ↦ inr (same.0, same.1 ∙ λ i. record { second = second; walk = (walk_is ∙ ap (λ x. x ∷ []) (sym same.0)) i; ride = Some ride })
          | inr old ↦ inl old
        ];
      }

-- along a trip

pub has_call : (n : Network) (trip : TripNo) (t : Trip) (calls : List Call) (i : ℕ) (d : Call) → Some t ≡ slice_get n.trips trip.0
    → calls ≡ t.calls → i < length calls → HasCall n trip i (get_or calls i d)
has_call n trip t calls i d is calls_are within =
    (t, sym is, subst (λ (xs : List Call). slice_get xs i ≡ Some (get_or calls i d)) calls_are (slice_get-get_or calls i d within))

pub call_same : (n : Network) (trip : TripNo) (k : ℕ) (a b : Call) → HasCall n trip k a → HasCall n trip k b → a ≡ b
call_same n trip k a b (t, e, f) (u, g, h) = cc

pub caught_later : (n : Network) (before after : Ways) (on : Call) → NoLater before after → IsCaught n before on → IsCaught n after on
caught_later n before after on later caught =
    record { ready = caught.ready; has_way = later _ caught.ready caught.has_way; in_time = caught.in_time }

pub RidesOn-same : (n : Network) (before row : Ways) → RidesOn n before row row
RidesOn-same n before row = record { one_each = refl; no_later = NoLater-same row; left = λ v way is. inl is }

pub RidesOn-both : (n : Network) (before row mid next : Ways) → RidesOn n before row mid → RidesOn n before mid next → RidesOn n before row next
RidesOn-both n before row mid next first second =
    record {
      one_each = second.one_each ∙ first.one_each;
      no_later = λ v m h. second.no_later v m (first.no_later v m h);
      left = λ v way is. elim (second.left v way is) [ inl at ↦ first.left v way at | inr at ↦ inr at ];
    }

pub IsRidden-later : (n : Network) (before row next : Ways) (ride : Ride) → length next ≡ length row → NoLater row next
    → IsRidden n before row ride → IsRidden n before next ride
IsRidden-later n before row next ride one_each later ridden on off is_ride caught within =
    later _ off.arr (ridden on off is_ride caught (omega arith))

-- what riding along the first calls of a trip made of a row
pub record Riding (n : Network) (before : Ways) (trip : TripNo) (start : Ways) (place : ℕ) (boarded : Option ℕ) (row : Ways) : Type 0 where
  pub whole : IsWhole row
  pub rides : RidesOn n before start row
  pub boards : IsBoarded n before trip place boarded
  pub ridden : (ride : Ride) → ride.trip ≡ trip → ride.alight < place → IsRidden n before row ride

module _ (n : Network) (before : Ways) (trip : TripNo) (start : Ways) (place : ℕ) (call : Call) (has : HasCall n trip place call) where
  -- the call of a ride that is left here
  off_is : (ride : Ride) (on off : Call) → ride.trip ≡ trip → ride.alight ≡ place → IsRide n ride on off → off ≡ call
  off_is ride on off trip_is alight_is is_ride =
      call_same n trip place off call
      (subst (λ k. HasCall n trip k off) alight_is (subst (λ (t : TripNo). HasCall n t ride.alight off) trip_is is_ride.leaves)) has

  more_places : (row : Ways) → ((ride : Ride) → ride.trip ≡ trip → ride.alight < place → IsRidden n before row ride)
      → ((ride : Ride) → ride.trip ≡ trip → ride.alight ≡ place → IsRidden n before row ride)
      → (ride : Ride) → ride.trip ≡ trip → ride.alight < place + 1 → IsRidden n before row ride
  more_places row earlier here ride trip_is within = elim (cases_lt ride.alight place) [
    | inl l ↦ earlier ride trip_is l
    | inr h ↦ here ride trip_is (omega arith)
  ]

  -- left here
  pub riding_left : (board : ℕ) (row next : Ways) → Riding n before trip start place (Some board) row → IsTrue call.alight → IsWhole next
      → Leaves row next (node_of n call.stop) call.arr (record { trip = trip; board = board; alight = place })
      → Riding n before trip start (place + 1) (Some board) next
  riding_left board row next riding may_alight whole leaves =
      let on = riding.boards.0 in
      let is_ride : IsRide n (record { trip = trip; board = board; alight = place }) on call =
      record { forward = riding.boards.1; boards = riding.boards.2; may_board = riding.boards.3; leaves = has; may_alight = may_alight } in
      record {
        whole = whole;
        rides = RidesOn-both n before start row next riding.rides (record {
          one_each = leaves.one_each;
          no_later = leaves.no_later;
          left = λ v way is. elim (leaves.left v way is) [
            | inl old ↦ inl old
            | inr here ↦ inr (record {
              ride = record { trip = trip; board = board; alight = place };
              on = on;
              off = call;
              is_ride = is_ride;
              caught = riding.boards.4;
              at = here.0;
              way_is = here.1;
            })
          ];
        });
        boards = (on, omega (arith, riding.boards.1), riding.boards.2, riding.boards.3, riding.boards.4);
        ridden = more_places next
            (λ ride trip_is within. IsRidden-later n before row next ride leaves.one_each leaves.no_later (riding.ridden ride trip_is within))
            (λ ride trip_is alight_is on' off is_ride' caught within.
            subst (λ (x : Call). HasWayBy next (node_of n x.stop) x.arr) (sym (off_is ride on' off trip_is alight_is is_ride'))
            (let inside : (node_of n call.stop).0 < length next =
            subst (λ (x : Call). (node_of n x.stop).0 < length next) (off_is ride on' off trip_is alight_is is_ride') within in
            leaves.held (omega (arith, leaves.one_each))));
      }

  -- passed where nobody may alight
  pub riding_passed : (board : ℕ) (row : Ways) → Riding n before trip start place (Some board) row → (IsTrue call.alight → ⊥)
      → Riding n before trip start (place + 1) (Some board) row
  riding_passed board row riding never =
      record {
        whole = riding.whole;
        rides = riding.rides;
        boards = (riding.boards.0, omega (arith, riding.boards.1), riding.boards.2, riding.boards.3, riding.boards.4);
        ridden = more_places row riding.ridden
            (λ ride trip_is alight_is on off is_ride caught within.
            absurd (never (subst (λ (x : Call). IsTrue x.alight) (off_is ride on off trip_is alight_is is_ride) is_ride.may_alight)));
      }

  -- nothing is left where nothing was boarded
  none_left : (row : Ways) → Riding n before trip start place None row
      → (ride : Ride) → ride.trip ≡ trip → ride.alight < place + 1 → IsRidden n before row ride
  none_left row riding = more_places row riding.ridden
      (λ ride trip_is alight_is on off is_ride caught within.
      absurd (riding.boards ride.board on (omega (arith, is_ride.forward)) (subst (λ (t : TripNo). HasCall n t ride.board on) trip_is is_ride.boards)
      is_ride.may_board caught))

  -- boarded here
  pub riding_boarded : (row : Ways) → Riding n before trip start place None row → IsTrue call.board → IsCaught n before call
      → Riding n before trip start (place + 1) (Some place) row
  riding_boarded row riding may_board caught =
      record {
        whole = riding.whole;
        rides = riding.rides;
        boards = (call, omega arith, has, may_board, caught);
        ridden = none_left row riding;
      }

  -- passed where the passenger can't board
  pub riding_missed : (row : Ways) → Riding n before trip start place None row → (IsTrue call.board → IsCaught n before call → ⊥)
      → Riding n before trip start (place + 1) None row
  riding_missed row riding never =
      record {
        whole = riding.whole;
        rides = riding.rides;
        boards = λ k on within at may_board caught. elim (cases_lt k place) [
          | inl l ↦ riding.boards k on l at may_board caught
          | inr h ↦
              let same : on ≡ call = call_same n trip place on call (subst (λ j. HasCall n trip j on) (omega arith) at) has in
              never (subst (λ (x : Call). IsTrue x.board) same may_board) (subst (λ x. IsCaught n before x) same caught)
        ];
        ridden = none_left row riding;
      }

  -- the four ways along a call, as the code tells them

  abbrev Rode : Option ℕ → Ways → Type 0
  Rode boarded row = Riding n before trip start (place + 1) boarded row

  rode_same : (boarded boarded' : Option ℕ) (row row' : Ways) → boarded ≡ boarded' → row ≡ row' → Rode boarded' row' → Rode boarded row
  rode_same boarded boarded' row row' same_board same_row rode =
      subst (λ b. Rode b row) (sym same_board) (subst (λ r. Rode boarded' r) (sym same_row) rode)

  module _ (held boarded : Option ℕ) (row next : Ways) (riding : Riding n before trip start place held row) where
    pub rode_left : (board at : ℕ) (node : NodeNo) (second : ℕ) (after : Ways) → held ≡ Some board → call.alight ≡ true → IsWhole after
        → Leaves row after node second (record { trip = trip; board = board; alight = at }) → node ≡ node_of n call.stop → second ≡ call.arr → at ≡ place
        → boarded ≡ Some board → next ≡ after → Rode boarded next
    rode_left board at node second after held_is may_alight whole leaves node_is second_is at_is boarded_is next_is =
        rode_same boarded (Some board) next after boarded_is next_is
        (riding_left board row after (subst (λ b. Riding n before trip start place b row) held_is riding) may_alight whole
        (subst (λ k. Leaves row after (node_of n call.stop) call.arr (record { trip = trip; board = board; alight = k })) at_is
        (subst (λ v. Leaves row after v call.arr (record { trip = trip; board = board; alight = at })) node_is
        (subst (λ m. Leaves row after node m (record { trip = trip; board = board; alight = at })) second_is leaves))))

    pub rode_passed : (board : ℕ) → held ≡ Some board → call.alight ≡ false → boarded ≡ Some board → next ≡ row → Rode boarded next
    rode_passed board held_is never boarded_is next_is =
        rode_same boarded (Some board) next row boarded_is next_is
        (riding_passed board row (subst (λ b. Riding n before trip start place b row) held_is riding) (λ may. cc))

    pub rode_boarded : (at : ℕ) → held ≡ None → call.board ≡ true → IsCaught n before call → at ≡ place
        → boarded ≡ Some at → next ≡ row → Rode boarded next
    rode_boarded at held_is may_board caught at_is boarded_is next_is =
        rode_same boarded (Some place) next row (boarded_is ∙ ap Some at_is) next_is
        (riding_boarded row (subst (λ b. Riding n before trip start place b row) held_is riding) may_board caught)

    pub rode_missed : held ≡ None → (IsTrue call.board → IsCaught n before call → ⊥) → boarded ≡ None → next ≡ row → Rode boarded next
    rode_missed held_is never boarded_is next_is =
        rode_same boarded None next row boarded_is next_is
        (riding_missed row (subst (λ b. Riding n before trip start place b row) held_is riding) never)

-- a trip of which each call, or each that 32 bits can number, was passed
pub ridden_all : (n : Network) (before : Ways) (trip : TripNo) (start : Ways) (place : ℕ) (boarded : Option ℕ) (row : Ways) (t : Trip) (calls : List Call)
    → Some t ≡ slice_get n.trips trip.0 → calls ≡ t.calls → (length calls ≤ place) ⊎ (4294967296 ≤ place)
    → Riding n before trip start place boarded row
    → (ride : Ride) → ride.trip ≡ trip → ride.alight < 4294967296 → IsRidden n before row ride
ridden_all n before trip start place boarded row t calls is calls_are (inl all) riding ride trip_is small on off is_ride =
    let at : HasCall n trip ride.alight off = subst (λ (x : TripNo). HasCall n x ride.alight off) trip_is is_ride.leaves in
    let same : at.0 ≡ t = same_Some at.0 t (sym at.1 ∙ sym is) in
    let within : ride.alight < length at.0.calls = slice_get_within at.0.calls ride.alight off at.2 in
    riding.ridden ride trip_is (omega (arith, within, all, ap (λ (x : Trip). length x.calls) same, ap (λ (xs : List Call). length xs) calls_are)) on off is_ride
ridden_all n before trip start place boarded row t calls is calls_are (inr far) riding ride trip_is small on off is_ride =
    riding.ridden ride trip_is (omega arith) on off is_ride

-- no ride of a trip that is not there
pub ridden_none : (n : Network) (before : Ways) (trip : TripNo) (row : Ways) → slice_get n.trips trip.0 ≡ None
    → (ride : Ride) → ride.trip ≡ trip → IsRidden n before row ride
ridden_none n before trip row none ride trip_is on off is_ride =
    let at : HasCall n trip ride.alight off = subst (λ (x : TripNo). HasCall n x ride.alight off) trip_is is_ride.leaves in
    absurd (no_trip at.0 (sym none ∙ at.1))
  where
    no_trip : (t : Trip) → None ≡ Some t → ⊥
    no_trip t e = cc

-- along all trips

-- what riding along the first trips made of a row
pub record RidingAll (n : Network) (before start : Ways) (place : ℕ) (row : Ways) : Type 0 where
  pub whole : IsWhole row
  pub rides : RidesOn n before start row
  pub ridden : (ride : Ride) → ride.trip.0 < place → ride.alight < 4294967296 → IsRidden n before row ride

pub riding_more : (n : Network) (before start : Ways) (place number : ℕ) (row next : Ways) → RidingAll n before start place row → number ≡ place
    → IsWhole next → RidesOn n before row next
    → ((ride : Ride) → ride.trip ≡ record { 0 = number } → ride.alight < 4294967296 → IsRidden n before next ride)
    → RidingAll n before start (place + 1) next
riding_more n before start place number row next riding number_is whole rides ridden =
    record {
      whole = whole;
      rides = RidesOn-both n before start row next riding.rides rides;
      ridden = λ ride within small. elim (cases_lt ride.trip.0 place) [
        | inl l ↦ IsRidden-later n before row next ride rides.one_each rides.no_later (riding.ridden ride l small)
        | inr h ↦
            let same : ride.trip.0 ≡ number = omega arith in
            ridden ride (ap (λ (k : ℕ). let t : TripNo = record { 0 = k } in t) same) small
      ];
    }

-- every trip, or each that 32 bits can number, was passed
pub riding_done : (n : Network) (before start : Ways) (place : ℕ) (row : Ways) → (length n.trips ≤ place) ⊎ (4294967296 ≤ place)
    → RidingAll n before start place row
    → (ride : Ride) → ride.trip.0 < 4294967296 → ride.alight < 4294967296 → IsRidden n before row ride
riding_done n before start place row (inl all) riding ride small near on off is_ride =
    let within : ride.trip.0 < length n.trips = slice_get_within n.trips ride.trip.0 is_ride.boards.0 is_ride.boards.1 in
    riding.ridden ride (omega arith) near on off is_ride
riding_done n before start place row (inr far) riding ride small near on off is_ride = riding.ridden ride (omega arith) near on off is_ride
