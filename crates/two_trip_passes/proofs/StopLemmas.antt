-- The calls at a stop.
use Rattle.std.proofs.Common.{◌≡◌, ℕ, ◌+◌, ◌-◌, ◌<◌, ◌≤◌, ◌⊎◌, ◌≢◌, List, take, length, get_or, sym, ap, subst, ◌∙◌, inl, inr, arith, Some}
use Rattle.std.proofs.lemmas.Bool.{cases_lt, cases_eq}
use Rattle.std.proofs.lemmas.List.{get_or_default}
use Rattle.std.proofs.lemmas.List.Elements.{All-more, All-contains, All-get_or}
use Rattle.std.proofs.lemmas.Option.{slice_get_within, get_or_from_slice_get, same_Some}
use Rattle.std.specs.Prelude.{All, slice_get, slice_index}
use Rattle.route_split.specs.declared.place.Place.{Place}
use Rattle.route_split.specs.declared.place.RouteCall.{RouteCall}
use Rattle.route_split.specs.Route.{Route, IsRoute, departures_of}
use Rattle.route_split.specs.Table.{LendsCalls, CallsAt}
use Rattle.piece_laws.specs.Tables.{never}
use Rattle.two_trip_rides.specs.First.{Source}
use Rattle.two_trip_rides.proofs.TimesLemmas.{departs_before}
use Rattle.two_trip_labels.specs.First.{IsCallOf, IsCallBoarded, MayBoardCall, RowsFall}
use Rattle.two_trip_passes.specs.Stops.{IsStopBoarded, IsFootOf, IsTimed, IsDueAt, IsDueCall, AreDue}

pub call_here : (routes : List Route) (x : ℕ) (calls : List RouteCall) (k : ℕ) (d : RouteCall) → LendsCalls routes x calls → k < length calls
    → CallsAt routes x (get_or calls k d).route (get_or calls k d).call
call_here routes x calls k d lends low =
    let c = get_or calls k d in
    (lends c.route c.call).0 (k, low, get_or_default calls k c d low)

pub calls_exist : (routes : List Route) (x : ℕ) (calls : List RouteCall) → LendsCalls routes x calls → All (IsCallOf routes) calls
calls_exist routes x calls lends k d low =
    let at = call_here routes x calls k d lends low in
    record { route = at.route; is_route = at.is_route; exists = slice_get_within at.route.places (get_or calls k d).call at.place at.is_place }

pub stop_boarded : (routes : List Route) (wanted : ℕ) (rows : List (List ℕ)) (x : ℕ) (calls : List RouteCall) → LendsCalls routes x calls
    → All (IsCallBoarded routes wanted rows) calls → IsStopBoarded routes wanted rows x
stop_boarded routes wanted rows x calls lends all = record {
  each = λ r i row route on is at here may more within late.
      let has = (lends r i).1 (record { route = route; place = on; is_route = is; is_place = at; at_stop = here }) in
      (All-contains (IsCallBoarded routes wanted rows) calls (record { route = r; call = i }) all has).each row route on is at may more within late;
}

pub boarded_falls : (routes : List Route) (wanted : ℕ) (rows rows' : List (List ℕ)) (x : ℕ) → RowsFall rows rows' → IsStopBoarded routes wanted rows x → IsStopBoarded routes wanted rows' x
boarded_falls routes wanted rows rows' x falls b = record {
  each = λ r i row route on is at here may more within late. omega (arith, (falls.each r).each i, b.each r i row route on is at here may more within late);
}

pub boarded_more : (routes : List Route) (near : ℕ → Type 0) (wanted : ℕ → ℕ) (rows rows' : List (List ℕ)) (m : ℕ) → RowsFall rows rows'
    → ((x : ℕ) → x < m → near x → IsStopBoarded routes (wanted x) rows x) → (near m → IsStopBoarded routes (wanted m) rows' m)
    → (x : ℕ) → x < m + 1 → near x → IsStopBoarded routes (wanted x) rows' x
boarded_more routes near wanted rows rows' m falls was this x low is = elim (cases_lt x m) [
  | inl l ↦ boarded_falls routes (wanted x) rows rows' x falls (was x l is)
  | inr g ↦ subst (λ (y : ℕ). near y → IsStopBoarded routes (wanted y) rows' y) (let e : m ≡ x = omega arith in e) this is
]

-- a row that departs after the walk may be boarded
pub may_board : (s : Source) (routes : List Route) (stops x wanted : ℕ) (foot : List ℕ) (calls : List RouteCall) → LendsCalls routes x calls → All (IsRoute stops) routes
    → IsFootOf s foot → x < length foot → s.second + slice_index foot x + s.network.buffer ≡ wanted → All (MayBoardCall s routes wanted) calls
may_board s routes stops x wanted foot calls lends whole walks within is k d low = record {
  each = λ route got on p at may late.
      let c = get_or calls k d in
      let h = call_here routes x calls k d lends low in
      let same : h.route ≡ route = same_Some h.route route (sym h.is_route ∙ got) in
      let at' : slice_get route.places c.call ≡ Some h.place = subst (λ (r : Route). slice_get r.places c.call ≡ Some h.place) same h.is_place in
      let here : on.stop.0 ≡ x = ap (λ (q : Place). q.stop.0) (same_Some on h.place (sym at ∙ at')) ∙ h.at_stop in
      let good : IsRoute stops route = subst (λ (r : Route). IsRoute stops r) (get_or_from_slice_get routes c.route route route got) (All-get_or (IsRoute stops) routes c.route route (slice_get_within routes c.route route got) whole) in
      let early = departs_before stops route c.call p good in
      let some : slice_index foot on.stop.0 < never = subst (λ (y : ℕ). slice_index foot y < never) (sym here) (omega arith) in
      let w : slice_index foot on.stop.0 ≡ slice_index foot x = ap (λ (y : ℕ). slice_index foot y) here in
      record {
        at = c.call;
        by = omega arith;
        on = on;
        is_place = at;
        may_board = may;
        walk = slice_index foot on.stop.0;
        to_it = walks.each on.stop (omega arith) some;
        in_time = omega (arith, w, is, late);
      };
}

pub all_timed : (stops : ℕ) (routes : List Route) → All (IsRoute stops) routes → All IsTimed routes
all_timed stops routes whole k d low =
    let is = All-get_or (IsRoute stops) routes k d low whole in
    let route = get_or routes k d in
    record { order = is.depart_in_order; soon = λ i p. departs_before stops route i p is }

pub due_later : (routes : List Route) (due due' wanted : ℕ) (c : RouteCall) → due ≤ due' → IsDueCall routes due wanted c → IsDueCall routes due' wanted c
due_later routes due due' wanted c le is = record { each = λ route at p low late. is.each route at p low (omega (arith, le, late)) }

pub due_rows : (routes : List Route) (due wanted : ℕ) (rows : List (List ℕ)) (c : RouteCall) → IsDueCall routes due wanted c → IsCallBoarded routes wanted rows c
    → IsCallBoarded routes due rows c
due_rows routes due wanted rows c is boarded = record {
  each = λ p route on at on_at may more low late. boarded.each p route on at on_at may more low (is.each route at p low late);
}

pub stop_due : (routes : List Route) (due wanted : ℕ) (rows : List (List ℕ)) (x : ℕ) (calls : List RouteCall) → LendsCalls routes x calls
    → All (IsDueCall routes due wanted) calls → All (IsCallBoarded routes wanted rows) calls → IsStopBoarded routes due rows x
stop_due routes due wanted rows x calls lends dues all =
    stop_boarded routes due rows x calls lends (λ k d low. due_rows routes due wanted rows (get_or calls k d) (dues k d low) (all k d low))

-- a second that is no earlier wants no more
pub boarded_late : (routes : List Route) (due wanted : ℕ) (rows : List (List ℕ)) (x : ℕ) → due ≤ wanted → IsStopBoarded routes due rows x → IsStopBoarded routes wanted rows x
boarded_late routes due wanted rows x le b = record {
  each = λ r i row route on is at here may more within late. b.each r i row route on is at here may more within (omega (arith, le, late));
}

-- what is due at one stop is put down
pub due_put : (routes : List Route) (rows rows' : List (List ℕ)) (due due' : List ℕ) (x : ℕ) → RowsFall rows rows' → length due' ≡ length due
    → ((y : ℕ) → y ≢ x → slice_index due' y ≡ slice_index due y) → IsStopBoarded routes (slice_index due' x) rows' x → AreDue routes rows due → AreDue routes rows' due'
due_put routes rows rows' due due' x falls many others here was = record { each = λ y low. at y (omega (arith, low, many)) (cases_eq y x) }
  where
    at : (y : ℕ) → y < length due → (y ≡ x) ⊎ (y ≢ x) → (slice_index due' y ≡ never) ⊎ IsStopBoarded routes (slice_index due' y) rows' y
    at y low (inl e) = inr (subst (λ (i : ℕ). IsStopBoarded routes (slice_index due' i) rows' i) (sym e) here)
    at y low (inr ne) = elim (was.each y low) [
      | inl none ↦ inl (others y ne ∙ none)
      | inr b ↦ inr (subst (λ (a : ℕ). IsStopBoarded routes a rows' y) (sym (others y ne)) (boarded_falls routes (slice_index due y) rows rows' y falls b))
    ]

pub due_found : (route : Route) (k due wanted row : ℕ) → IsTimed route → k < length route.places → length (departures_of route k) ≡ length route.trips → row ≤ length (departures_of route k)
    → ((p : ℕ) → p + 1 ≡ row → slice_index (departures_of route k) p < due)
    → (row < length (departures_of route k) → wanted ≤ slice_index (departures_of route k) row) → IsDueAt route k due wanted
due_found route k due wanted row timed within many low before there p p_in late =
    elim (cases_lt p row) [
      | inl l ↦ absurd (omega (arith, late, before (row - 1) (omega (arith, l)), timed.order k within p (row - 1) (omega (arith, l)) (omega (arith, l, low))))
      | inr g ↦ omega (arith, there (omega (arith, g, p_in, many)), timed.order k within row p g (omega (arith, p_in, many)))
    ]

pub due_more : (routes : List Route) (due here due' wanted : ℕ) (calls : List RouteCall) (m : ℕ) (d : RouteCall) → m < length calls → due ≤ due' → here ≤ due'
    → All (IsDueCall routes due wanted) (take m calls) → IsDueCall routes here wanted (get_or calls m d) → All (IsDueCall routes due' wanted) (take (m + 1) calls)
due_more routes due here due' wanted calls m d within low low' was this =
    All-more (IsDueCall routes due' wanted) calls m d within (λ k e at. due_later routes due due' wanted (get_or (take m calls) k e) low (was k e at))
    (due_later routes here due' wanted (get_or calls m d) low' this)
