-- The route that is built of the trips of a group.
use Rattle.std.proofs.Common.{◌≡◌, ℕ, zero, suc, ◌-◌, ◌*◌, ◌<◌, ◌≤◌, ◌^◌, inl, inr, List, length, map, get_or, refl, sym, ap, ◌∙◌, subst, arith, Some}
use Rattle.std.specs.Prelude.{All, slice_get}
use Rattle.std.specs.Option.{option_map}
use Rattle.std.proofs.lemmas.Bool.{cases_lt}
use Rattle.std.proofs.lemmas.List.{length-map, get_or-map}
use Rattle.std.proofs.lemmas.List.Elements.{All-get_or, All-map, All-from_get_or}
use Rattle.std.proofs.lemmas.Option.{slice_get-get_or, slice_get-map, slice_get_within, get_or_from_slice_get, same_Some}
use Rattle.move_model.specs.declared.network.TripNo.{TripNo}
use Rattle.move_model.specs.declared.network.Trip.{Trip}
use Rattle.move_model.specs.declared.network.Call.{Call}
use Rattle.move_model.specs.Check.{Stays}
use Rattle.route_split.specs.declared.place.Place.{Place}
use Rattle.route_split.specs.Route.{arrivals_of, departures_of, NeverFalls, IsRoute}
use Rattle.route_split.specs.Calls.{IsRowOf, IsRouteOf}
use Rattle.route_split.specs.Routes.{place_of}
use Rattle.route_split.specs.Split.{CanFollow}
use Rattle.route_split.specs.Fill.{no_trip, no_call, trip_no, trip_at, call_at, arrivals_at, departures_at, first_calls, built, IsGroup}
use Rattle.route_split.proofs.BlockLemmas.{length-block, length-arrivals, length-departures, arrivals_row, departures_row, All-block}

pub arrivals-built : (trips : List Trip) (group : List TripNo) (k : ℕ) → k < length (first_calls trips group)
    → arrivals_of (built trips group) k ≡ arrivals_at trips group k
unfolding arrivals_of
arrivals-built trips group k low = arrivals_row trips group (length (first_calls trips group)) k low

pub departures-built : (trips : List Trip) (group : List TripNo) (k : ℕ) → k < length (first_calls trips group)
    → departures_of (built trips group) k ≡ departures_at trips group k
unfolding departures_of
departures-built trips group k low = departures_row trips group (length (first_calls trips group)) k low

pub same_follows : (cs : List Call) → CanFollow cs cs
same_follows cs = record {
  as_many = refl;
  same = λ k c d at_c at_d. ap place_of (same_Some c d (sym at_c ∙ at_d));
  no_later = λ k c d at_c at_d. let e = same_Some c d (sym at_c ∙ at_d) in
      (omega (arith, ap (λ (x : Call). x.arr) e), omega (arith, ap (λ (x : Call). x.dep) e));
}

module _ (trips : List Trip) (group : List TripNo) (is : IsGroup trips group) where
  pub trip_is : (p : ℕ) (t : TripNo) → slice_get group p ≡ Some t → slice_get trips t.0 ≡ Some (trip_at trips t.0)
  trip_is p t at = slice_get-get_or trips t.0 no_trip (is.exist p t at)

  -- a trip can follow the first
  pub follows_first : (p : ℕ) (t : TripNo) → slice_get group p ≡ Some t → CanFollow (first_calls trips group) (trip_at trips t.0).calls
  follows_first zero t at =
      let e : get_or group 0 (trip_no 0) ≡ t = get_or_from_slice_get group 0 t (trip_no 0) at in
      subst (λ (u : TripNo). CanFollow (first_calls trips group) (trip_at trips u.0).calls) e (same_follows (first_calls trips group))
  follows_first (suc p) t at =
      let first = slice_get-get_or group 0 (trip_no 0) is.some in
      let f = get_or group 0 (trip_no 0) in
      is.stand 0 (suc p) f t (omega arith) first at (trip_at trips f.0) (trip_at trips t.0) (trip_is 0 f first) (trip_is (suc p) t at)

  pub call_is : (p : ℕ) (t : TripNo) (k : ℕ) → slice_get group p ≡ Some t → k < length (first_calls trips group)
      → slice_get (trip_at trips t.0).calls k ≡ Some (call_at trips k t)
  call_is p t k at low =
      let long = (follows_first p t at).as_many in
      slice_get-get_or (trip_at trips t.0).calls k no_call (omega (arith, long))

  arrival_is : (p k : ℕ) (t : TripNo) → slice_get group p ≡ Some t → k < length (first_calls trips group)
      → get_or (arrivals_of (built trips group) k) p 0 ≡ (call_at trips k t).arr
  arrival_is p k t at low =
      ap (λ l. get_or l p 0) (arrivals-built trips group k low)
      ∙ get_or-map (λ u. (call_at trips k u).arr) group p (trip_no 0) 0 (slice_get_within group p t at)
      ∙ ap (λ u. (call_at trips k u).arr) (get_or_from_slice_get group p t (trip_no 0) at)

  departure_is : (p k : ℕ) (t : TripNo) → slice_get group p ≡ Some t → k < length (first_calls trips group)
      → get_or (departures_of (built trips group) k) p 0 ≡ (call_at trips k t).dep
  departure_is p k t at low =
      ap (λ l. get_or l p 0) (departures-built trips group k low)
      ∙ get_or-map (λ u. (call_at trips k u).dep) group p (trip_no 0) 0 (slice_get_within group p t at)
      ∙ ap (λ u. (call_at trips k u).dep) (get_or_from_slice_get group p t (trip_no 0) at)

  same_call : (d : Call) (place : Place) (a b : ℕ) → place ≡ place_of d → a ≡ d.arr → b ≡ d.dep
      → ◌≡◌ {A = Call} (record { stop = place.stop; arr = a; dep = b; board = place.board; alight = place.alight }) d
  same_call d place a b e f g =
      ap (λ (v : Place). record { stop = v.stop; arr = a; dep = b; board = v.board; alight = v.alight }) e
      ∙ ap (λ n. record { stop = d.stop; arr = n; dep = b; board = d.board; alight = d.alight }) f
      ∙ ap (λ n. record { stop = d.stop; arr = d.arr; dep = n; board = d.board; alight = d.alight }) g

  pub row-built : (p : ℕ) (t : TripNo) → slice_get group p ≡ Some t → IsRowOf trips (built trips group) p t
  row-built p t at =
      let first = first_calls trips group in
      let follows = follows_first p t at in
      record {
        trip = trip_at trips t.0;
        is_trip = trip_is p t at;
        as_many = sym follows.as_many ∙ sym (length-map first place_of);
        calls_are = λ k place at_place.
            let low : k < length first = omega (arith, slice_get_within (map place_of first) k place at_place, length-map first place_of) in
            let at_first = slice_get-get_or first k no_call low in
            let here : place_of (get_or first k no_call) ≡ place =
            same_Some (place_of (get_or first k no_call)) place (ap (option_map place_of) (sym at_first) ∙ sym (slice_get-map place_of first k) ∙ at_place) in
            let d = call_at trips k t in
            let e : place ≡ place_of d = sym here ∙ follows.same k (get_or first k no_call) d at_first (call_is p t k at low) in
            call_is p t k at low ∙ ap (λ (c : Call). Some c) (sym (same_call d place _ _ e (arrival_is p k t at low) (departure_is p k t at low)));
      }

  pub rows-built : IsRouteOf trips (built trips group)
  rows-built = λ p t at. row-built p t at

  at_place : (p : ℕ) → p < length group → slice_get group p ≡ Some (get_or group p (trip_no 0))
  at_place p low = slice_get-get_or group p (trip_no 0) low

  no_later_at : (k p q : ℕ) → k < length (first_calls trips group) → p < q → q < length group
      → ((call_at trips k (get_or group p (trip_no 0))).arr ≤ (call_at trips k (get_or group q (trip_no 0))).arr)
      × ((call_at trips k (get_or group p (trip_no 0))).dep ≤ (call_at trips k (get_or group q (trip_no 0))).dep)
  no_later_at k p q low before within =
      let t = get_or group p (trip_no 0) in
      let u = get_or group q (trip_no 0) in
      let at_t = at_place p (omega arith) in
      let at_u = at_place q within in
      let follows = is.stand p q t u before at_t at_u (trip_at trips t.0) (trip_at trips u.0) (trip_is p t at_t) (trip_is q u at_u) in
      follows.no_later k (call_at trips k t) (call_at trips k u) (call_is p t k at_t low) (call_is q u k at_u low)

  arrivals_never_fall : (k : ℕ) → k < length (first_calls trips group) → NeverFalls (arrivals_of (built trips group) k)
  arrivals_never_fall k low = λ p q order within.
      let within' : q < length group = omega (arith, within, ap length (arrivals-built trips group k low), length-arrivals trips group k) in
      let at_p = arrival_is p k (get_or group p (trip_no 0)) (at_place p (omega (arith, order, within'))) low in
      let at_q = arrival_is q k (get_or group q (trip_no 0)) (at_place q within') low in
      elim (cases_lt p q) [
        | inl before ↦ omega (arith, at_p, at_q, (no_later_at k p q low before within').0)
        | inr last ↦ let same : p ≡ q = omega (arith, last, order) in
            omega (arith, ap (λ n. get_or (arrivals_of (built trips group) k) n 0) same)
      ]

  departures_never_fall : (k : ℕ) → k < length (first_calls trips group) → NeverFalls (departures_of (built trips group) k)
  departures_never_fall k low = λ p q order within.
      let within' : q < length group = omega (arith, within, ap length (departures-built trips group k low), length-departures trips group k) in
      let at_p = departure_is p k (get_or group p (trip_no 0)) (at_place p (omega (arith, order, within'))) low in
      let at_q = departure_is q k (get_or group q (trip_no 0)) (at_place q within') low in
      elim (cases_lt p q) [
        | inl before ↦ omega (arith, at_p, at_q, (no_later_at k p q low before within').1)
        | inr last ↦ let same : p ≡ q = omega (arith, last, order) in
            omega (arith, ap (λ n. get_or (departures_of (built trips group) k) n 0) same)
      ]

  module _ (stops : ℕ) (few_calls : All (λ trip. length trip.calls < 2 ^ 32 - 1) trips)
      (timed : All (λ trip. All Stays trip.calls) trips) (placed : All (λ trip. All (λ call. call.stop.0 < stops) trip.calls) trips) where
    stays_at : (k p : ℕ) → k < length (first_calls trips group) → p < length group → Stays (call_at trips k (get_or group p (trip_no 0)))
    stays_at k p low within =
        let t = get_or group p (trip_no 0) in
        let at = at_place p within in
        All-get_or Stays (trip_at trips t.0).calls k no_call (slice_get_within (trip_at trips t.0).calls k (call_at trips k t) (call_is p t k at low))
        (All-get_or (λ (trip : Trip). All Stays trip.calls) trips t.0 no_trip (is.exist p t at) timed)

    first_exists : (get_or group 0 (trip_no 0)).0 < length trips
    first_exists = is.exist 0 (get_or group 0 (trip_no 0)) (at_place 0 is.some)

    in_day : (second : ℕ) → second ≤ 3599999 → second < 2 ^ 32 - 1
    in_day second h = omega (arith, h)

    pub route-built : IsRoute stops (built trips group)
    route-built =
        let first = first_calls trips group in
        let as_many = length-map first place_of in
        record {
          full = length-block trips group (length first) ∙ ap (λ n. 2 * n * length group) (sym as_many);
          in_time = All-block trips group (λ second. second < 2 ^ 32 - 1) (length first)
              (λ k low. All-map (λ second. second < 2 ^ 32 - 1) (λ t. (call_at trips k t).arr) group
              (All-from_get_or (λ t. (call_at trips k t).arr < 2 ^ 32 - 1) group (trip_no 0)
              (λ p within. let s = stays_at k p low within in omega (arith, s.0, s.1))))
              (λ k low. All-map (λ second. second < 2 ^ 32 - 1) (λ t. (call_at trips k t).dep) group
              (All-from_get_or (λ t. (call_at trips k t).dep < 2 ^ 32 - 1) group (trip_no 0)
              (λ p within. let s = stays_at k p low within in omega (arith, s.1))));
          few_calls = omega (arith, as_many, All-get_or (λ (trip : Trip). length trip.calls < 2 ^ 32 - 1) trips (get_or group 0 (trip_no 0)).0 no_trip first_exists few_calls);
          few_trips = is.few;
          at_stops = All-map (λ place. place.stop.0 < stops) place_of first
              (All-get_or (λ (trip : Trip). All (λ call. call.stop.0 < stops) trip.calls) trips (get_or group 0 (trip_no 0)).0 no_trip first_exists placed);
          arrive_in_order = λ k low. arrivals_never_fall k (omega (arith, low, as_many));
          depart_in_order = λ k low. departures_never_fall k (omega (arith, low, as_many));
        }
