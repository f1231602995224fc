-- Second rides from all stops.
use Rattle.std.proofs.Common.{◌≡◌, ◌≢◌, ℕ, ◌+◌, ◌<◌, ◌≤◌, ◌⊎◌, inl, inr, List, length, get_or, refl, sym, ap, subst, ◌∙◌, arith, Some}
use Rattle.std.proofs.lemmas.Bool.{cases_lt, cases_eq}
use Rattle.std.proofs.lemmas.List.Elements.{All-contains, All-get_or}
use Rattle.std.proofs.lemmas.Option.{slice_get_within, get_or_from_slice_get, same_Some}
use Rattle.std.specs.Prelude.{All, slice_get, slice_index}
use Rattle.move_model.specs.declared.network.StopNo.{StopNo}
use Rattle.move_model.specs.Shortcut.{IsLess}
use Rattle.pareto_laws.proofs.Calls.{stop_eq}
use Rattle.route_split.specs.declared.place.Place.{Place}
use Rattle.route_split.specs.declared.place.RouteCall.{RouteCall}
use Rattle.route_split.specs.Route.{Route, IsRoute}
use Rattle.route_split.specs.Table.{LendsCalls}
use Rattle.piece_laws.specs.declared.labels.Ready.{Ready}
use Rattle.piece_laws.specs.declared.labels.Second.{Second}
use Rattle.piece_laws.specs.declared.labels.Held.{Held}
use Rattle.piece_laws.specs.Pieces.{ready_entries, held_entries, HasReady}
use Rattle.piece_laws.specs.Tables.{never}
use Rattle.piece_laws.proofs.Entries.{not_less-trans}
use Rattle.two_trip_rides.specs.First.{Source}
use Rattle.two_trip_rides.specs.Second.{ready_at, held_at}
use Rattle.two_trip_rides.proofs.TimesLemmas.{departs_before}
use Rattle.two_trip_labels.specs.Second.{held_row, boarded_with, HeldRowsFall, SecondGoes, MayRideCall, IsCallRidden}
use Rattle.two_trip_labels.specs.Closed.{own_of}
use Rattle.two_trip_labels.proofs.SecondLemmas as second
use Rattle.two_trip_passes.specs.Rides.{place_ready, IsLabelOf, IsStopRidden, RideGoes, IsBoardedLow}
use Rattle.two_trip_passes.proofs.StopLemmas.{call_here}

pub stop_ridden : (routes : List Route) (foot : List ℕ) (z buffer : ℕ) (label : Ready) (rows : List (List Held)) (x : ℕ) (calls : List RouteCall) → LendsCalls routes x calls
    → All (IsCallRidden routes label buffer rows) calls → IsStopRidden routes foot z buffer label rows (record { 0 = x })
stop_ridden routes foot z buffer label rows x calls lends all = record {
  each = λ r i row route on is at here may more within late.
      let has = (lends r i).1 (record { route = route; place = on; is_route = is; is_place = at; at_stop = ap (λ (s : StopNo). s.0) here }) in
      inr ((All-contains (IsCallRidden routes label buffer rows) calls (record { route = r; call = i }) all has).each row route on is at may more within late);
}

-- where walking is no later
pub stop_walked : (routes : List Route) (foot : List ℕ) (z buffer : ℕ) (label : Ready) (rows : List (List Held)) (x : ℕ) → z + slice_index foot x ≤ label.ready
    → IsStopRidden routes foot z buffer label rows (record { 0 = x })
stop_walked routes foot z buffer label rows x walked = record { each = λ r i row route on is at here may more within late. inl walked }

ridden_falls : (routes : List Route) (foot : List ℕ) (z buffer : ℕ) (label : Ready) (rows rows' : List (List Held)) (y : StopNo) → HeldRowsFall rows rows'
    → IsStopRidden routes foot z buffer label rows y → IsStopRidden routes foot z buffer label rows' y
ridden_falls routes foot z buffer label rows rows' y falls b = record {
  each = λ r i row route on is at here may more within late. elim (b.each r i row route on is at here may more within late) [
    | inl w ↦ inl w
    | inr l ↦ inr (not_less-trans (held_entries (held_at (held_row rows' r) i)) (held_entries (held_at (held_row rows r) i)) (held_entries (boarded_with row on label)) refl ((falls.each r).each i) l)
  ];
}

-- a row that departs in time may be boarded with a label that is real
pub may_ride : (s : Source) (routes : List Route) (stops x buffer : ℕ) (label : Ready) (calls : List RouteCall) → LendsCalls routes x calls → All (IsRoute stops) routes
    → s.network.buffer ≡ buffer → (label.ready < never → HasReady s.network s.node s.second (record { 0 = x }) label) → All (MayRideCall s routes label buffer) calls
may_ride s routes stops x buffer label calls lends whole is real k d low = record {
  each = λ route got on p at may late.
      let c = get_or calls k d in
      let h = call_here routes x calls k d lends low in
      let same : h.route ≡ route = same_Some h.route route (sym h.is_route ∙ got) in
      let at' : slice_get route.places c.call ≡ Some h.place = subst (λ (r : Route). slice_get r.places c.call ≡ Some h.place) same h.is_place in
      let here : on.stop.0 ≡ x = ap (λ (q : Place). q.stop.0) (same_Some on h.place (sym at ∙ at')) ∙ h.at_stop in
      let good : IsRoute stops route = subst (λ (r : Route). IsRoute stops r) (get_or_from_slice_get routes c.route route route got) (All-get_or (IsRoute stops) routes c.route route (slice_get_within routes c.route route got) whole) in
      let early = departs_before stops route c.call p good in
      record {
        at = c.call;
        by = omega arith;
        on = on;
        is_place = at;
        may_board = may;
        boards = subst (λ (y : StopNo). HasReady s.network s.node s.second y label) (stop_eq (record { 0 = x }) on.stop (sym here)) (real (omega (arith, late, early)));
        in_time = omega (arith, is, late);
        y_is = refl;
      };
}

module _ (routes : List Route) (foot : List ℕ) (z : ℕ) (places : List ℕ) (buffer : ℕ) (first : List ℕ) (ready : List Ready) where
  pub goes_none : (boarded : List Ready) (rows : List (List Held)) (best : List Second) → RideGoes routes foot z places buffer first ready boarded boarded rows rows best best
  goes_none boarded rows best = record {
    as_many = refl;
    each = λ y. inl refl;
    goes = second.goes_none routes foot z places ready rows best;
    ridden = λ y was. was;
  }

  pub goes_on : (boarded boarded' boarded'' : List Ready) (rows rows' rows'' : List (List Held)) (best best' best'' : List Second)
      → RideGoes routes foot z places buffer first ready boarded boarded' rows rows' best best' → RideGoes routes foot z places buffer first ready boarded' boarded'' rows' rows'' best' best''
      → RideGoes routes foot z places buffer first ready boarded boarded'' rows rows'' best best''
  goes_on boarded boarded' boarded'' rows rows' rows'' best best' best'' f g = record {
    as_many = g.as_many ∙ f.as_many;
    each = λ y. each_on y (f.each y) (g.each y);
    goes = second.goes_on routes foot z places ready rows rows' rows'' best best' best'' f.goes g.goes;
    ridden = λ y was. g.ridden y (f.ridden y was);
  }
    where
      each_on : (y : StopNo) → (ready_at boarded' y.0 ≡ ready_at boarded y.0) ⊎ ((y.0 < length first) × IsLabelOf places first ready y (ready_at boarded' y.0))
          → (ready_at boarded'' y.0 ≡ ready_at boarded' y.0) ⊎ ((y.0 < length first) × IsLabelOf places first ready y (ready_at boarded'' y.0))
          → (ready_at boarded'' y.0 ≡ ready_at boarded y.0) ⊎ ((y.0 < length first) × IsLabelOf places first ready y (ready_at boarded'' y.0))
      each_on y before (inr new) = inr new
      each_on y (inl old) (inl same) = inl (same ∙ old)
      each_on y (inr was) (inl same) = inr (was.0, subst (λ (l : Ready). IsLabelOf places first ready y l) (sym same) was.1)

  -- one stop is boarded
  pub goes_stop : (boarded boarded' : List Ready) (rows rows' : List (List Held)) (best best' : List Second) (x : ℕ) (label : Ready) → x < length first
      → IsLabelOf places first ready (record { 0 = x }) label → length boarded' ≡ length boarded → ready_at boarded' x ≡ label
      → ((y : ℕ) → y ≢ x → ready_at boarded' y ≡ ready_at boarded y) → SecondGoes routes foot z places ready rows rows' best best'
      → IsStopRidden routes foot z buffer label rows' (record { 0 = x }) → RideGoes routes foot z places buffer first ready boarded boarded' rows rows' best best'
  goes_stop boarded boarded' rows rows' best best' x label within is many here others goes new = record {
    as_many = many;
    each = λ y. elim (cases_eq y.0 x) [
      | inl e ↦ inr (
        omega (arith, e, within),
        subst (λ (i : StopNo). IsLabelOf places first ready i (ready_at boarded' i.0)) (stop_eq (record { 0 = x }) y (sym e))
            (subst (λ (l : Ready). IsLabelOf places first ready (record { 0 = x }) l) (sym here) is),
      )
      | inr ne ↦ inl (others y.0 ne)
    ];
    goes = goes;
    ridden = λ y was. elim (cases_eq y.0 x) [
      | inl e ↦ subst (λ (i : StopNo). IsStopRidden routes foot z buffer (ready_at boarded' i.0) rows' i) (stop_eq (record { 0 = x }) y (sym e))
          (subst (λ (l : Ready). IsStopRidden routes foot z buffer l rows' (record { 0 = x })) (sym here) new)
      | inr ne ↦ subst (λ (l : Ready). IsStopRidden routes foot z buffer l rows' y) (sym (others y.0 ne)) (ridden_falls routes foot z buffer (ready_at boarded y.0) rows rows' y goes.rows_fall was)
    ];
  }

module _ (places first : List ℕ) (ready : List Ready) where
  pub low_new : (y : StopNo) (l : Ready) → IsLabelOf places first ready y l → IsBoardedLow places first ready l y
  low_new y l is = record { own_low = is.own_low; place_low = is.there_low }

  -- a label that isn't less changes nothing
  pub low_kept : (y : StopNo) (l b : Ready) → IsLabelOf places first ready y l → ¬ (IsLess (ready_entries l) (ready_entries b)) → IsBoardedLow places first ready b y
  low_kept y l b is none = record {
    own_low = not_less-trans (ready_entries b) (ready_entries l) (ready_entries (own_of first y)) refl none is.own_low;
    place_low = not_less-trans (ready_entries b) (ready_entries l) (ready_entries (place_ready places ready y)) refl none is.there_low;
  }

  pub low_more : (boarded boarded' : List Ready) (m : ℕ)
      → ((y : StopNo) → (ready_at boarded' y.0 ≡ ready_at boarded y.0) ⊎ ((y.0 < length first) × IsLabelOf places first ready y (ready_at boarded' y.0)))
      → ((y : StopNo) → y.0 < m → IsBoardedLow places first ready (ready_at boarded y.0) y) → IsBoardedLow places first ready (ready_at boarded' m) (record { 0 = m })
      → (y : StopNo) → y.0 < m + 1 → IsBoardedLow places first ready (ready_at boarded' y.0) y
  low_more boarded boarded' m each was this y low = elim (cases_lt y.0 m) [
    | inl l ↦ elim (each y) [
      | inl e ↦ subst (λ (b : Ready). IsBoardedLow places first ready b y) (sym e) (was y l)
      | inr i ↦ low_new y (ready_at boarded' y.0) i.1
    ]
    | inr g ↦ subst (λ (i : StopNo). IsBoardedLow places first ready (ready_at boarded' i.0) i) (stop_eq (record { 0 = m }) y (omega arith)) this
  ]
